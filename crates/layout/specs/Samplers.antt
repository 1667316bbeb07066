-- Document 01, "Numbers of the faults", 19: what a sampler must be, "its number aside". The check asks this of every sampler, and line of the
-- sampler that it prints.
use Rattle.std.specs.Prelude.{Bool, not, ◌||◌, eqb, ltb}
use Rattle.layout.specs.declared.record.Sampler.{Sampler}

-- "type not 5, .. filter, wrap or dimension above 1, mipmap above 2, special not 0"
abbrev pub settings_wrong : Sampler → Bool
settings_wrong s =
    not (eqb s.kind 5) || ltb 1 s.filter || ltb 1 s.wrap || ltb 1 s.dimension || ltb 2 s.mipmap
    || not (eqb s.special 0)
