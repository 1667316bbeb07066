-- The next state of the code stands for the next state of the check over paths.
-- Assumes nothing.
use Rattle.std.specs.Prelude.{None, Option, Some}
use Prim.Native.Nat.{ℕ, zero, suc, ◌+◌, ◌%◌, ◌<◌}
use mathlib.Core.Bool.{false, ◌||◌, or-false, true≢false}
use mathlib.Core.List.{◌∷◌}
use mathlib.Core.Path.{◌≡◌, refl, ◌∙◌, sym, ap, ap₂, fun_ext}
use native.Mathlib.Omega.{arith}
use lib.ListN.{length-set}
use lib.Seq.{get_or-set_same, get_or-set_other}
use borrow.Author.Tests.{leb-false}
use Rattle.layout.specs.declared.opcodes.Flow as code
use Rattle.layout.specs.declared.opcodes.Flow.TheVariants.{Plain, Opener, Els, Eif}
use Rattle.layout.specs.declared.record.MaskedRegister.{MaskedRegister}
use Rattle.paths.specs.Paths.{Flow}
use Rattle.paths.specs.Nesting.{branches_after}
use Rattle.paths.specs.computed.Sets.{ComponentSet, adds}
use Rattle.components.specs.Reads.{writes_into, temporaries}
use Rattle.components.specs.Tokens.{path_flow}
use Rattle.components.specs.computed.Written.{component_set}
use Rattle.paths.specs.computed.Check as check
use Rattle.paths.specs.computed.Check.{current_at, kept_at, kept_after}
use Rattle.components.specs.declared.written.Written.{Written}
use Rattle.components.proofs.WrittenLaws.{in_join, in_written}
use Rattle.verifier.specs.computed.State.{branch, no_branch, branch_at, slot_of, slot_around, is_misplaced, with_current, met_state, parted_state, written_by, wrote_state}
use Rattle.verifier.specs.declared.state.Branch.{Branch}
use Rattle.verifier.specs.declared.state.State.{State}
use Rattle.verifier.proofs.Abstract.{branch_of, kept_of, below, open_in, below_alike, kept_in, abstract_of, Valid, none_open}

-- ---- the write

-- a temporary register that is written is one of those that a set keeps
abbrev pub Kept : Option MaskedRegister → Type 0
Kept None = Unit {0}
Kept (Some r) = r.kind ≡ 2 → r.number < 32

pub wrote_is : (st : State) (d : Option MaskedRegister) → Kept d
    → (w : Written) × (wrote_state st d ≡ with_current st w) × (component_set w ≡ adds (component_set st.current) (temporaries (writes_into d)))
wrote_is st None h = (st.current, refl, fun_ext (λ c. sym (or-false (component_set st.current c))))
wrote_is st (Some r) h = (written_by st.current r, refl, fun_ext (in_written st.current r h))

-- ---- the state by its parts

abbrev pub next_abstract : check.State → Flow → ℕ → ComponentSet → check.State
next_abstract a f n after =
    record {
      open_branches = branches_after f n a.open_branches;
      current = after;
      kept = kept_after f after (kept_at f a.current a.kept);
    }

-- the state after a token, where the set after its write is w
abbrev pub state_after : State → code.Flow → ℕ → Written → State
state_after st f n w = parted_state (with_current (met_state st f) w) f n

-- what a token makes of a valid state
pub record Follows (st : State) (f : code.Flow) (n : ℕ) : Type 0 where
  pub before : component_set (met_state st f).current ≡ current_at (path_flow f) (component_set st.current) (kept_in st)
  pub after : (w : Written) → abstract_of (state_after st f n w) ≡ next_abstract (abstract_of st) (path_flow f) n (component_set w)
  pub valid : (w : Written) → Valid (state_after st f n w)

module _ (st : State) (n : ℕ) (v : Valid st) where
  plain_follows : Follows st Plain n
  plain_follows =
      record {
        before = refl;
        after = λ w. refl;
        valid = λ w. record { depth = v.depth; around = v.around };
      }

  -- ---- an opener

  -- the branches below the one that is put away stay
  put_away : (w : Written) (d : ℕ) → slot_of st.depth ≡ d → (i : ℕ) → i < d → branch_at (state_after st Opener n w) i ≡ branch_at st i
  put_away w d e i h = get_or-set_other st.around (slot_of st.depth) i st.innermost no_branch (λ k. omega (arith, e, h, k))

  -- and that one is found again
  found_again : (w : Written) (d : ℕ) → slot_of st.depth ≡ d → d < 16 → branch_at (state_after st Opener n w) d ≡ st.innermost
  found_again w d e h = let room = v.around in rw e (get_or-set_same st.around d st.innermost no_branch (omega (arith, h, room)))

  module _ {A : Type 0} (of : Branch → A) where
    around : (w : Written) (d : ℕ) → st.depth ≡ d → d < 16 → below of (branch_at (state_after st Opener n w)) d ≡ open_in of st.innermost (branch_at st) d
    around w zero e h = refl
    around w (suc d) e h =
        let at : slot_of st.depth ≡ d = omega (arith, e, h) in
        ap₂ (λ b bs. of b ∷ bs) (found_again w d at (omega (arith, h))) (below_alike of (branch_at (state_after st Opener n w)) (branch_at st) d (put_away w d at))

    opened_is : (w : Written) → st.depth < 16
        → open_in of (branch w n false) (branch_at (state_after st Opener n w)) (st.depth % 16 + 1) ≡ of (branch w n false) ∷ open_in of st.innermost (branch_at st) st.depth
    opened_is w h =
        let deeper : st.depth % 16 + 1 ≡ suc st.depth = omega (arith, h) in
        ap (open_in of (branch w n false) (branch_at (state_after st Opener n w))) deeper ∙ ap (λ bs. of (branch w n false) ∷ bs) (around w st.depth refl h)

  opener_follows : is_misplaced st Opener ≡ false → Follows st Opener n
  opener_follows m =
      let h = leb-false 16 st.depth m in
      let room = v.around in
      record {
        before = refl;
        after = λ w. ap₂ (λ bs ks. record { open_branches = bs; current = component_set w; kept = ks }) (opened_is branch_of w h) (opened_is kept_of w h);
        valid = λ w. record { depth = omega (arith, h); around = simp length-set room };
      }

  -- ---- els and eif, where d + 1 branches are open

  module _ (d : ℕ) (e : st.depth ≡ suc d) where
    els_follows : Follows st Els n
    els_follows =
        record {
          before = rw e;
          after = λ w. rw e;
          valid = λ w. record { depth = v.depth; around = v.around };
        }

    module _ {A : Type 0} (of : Branch → A) where
      closed_is : (k : ℕ) → d ≡ k → open_in of (branch_at st (slot_around st.depth)) (branch_at st) k ≡ below of (branch_at st) k
      closed_is zero p = refl
      closed_is (suc k) p =
          let h = v.depth in
          let at : slot_around st.depth ≡ k = omega (arith, e, p, h) in
          ap (λ i. of (branch_at st i) ∷ below of (branch_at st) k) at

      joined_is : open_in of (branch_at st (slot_around st.depth)) (branch_at st) (slot_of st.depth) ≡ below of (branch_at st) d
      joined_is =
          let h = v.depth in
          let at : slot_of st.depth ≡ d = omega (arith, e, h) in
          ap (open_in of (branch_at st (slot_around st.depth)) (branch_at st)) at ∙ closed_is d refl

    eif_follows : Follows st Eif n
    eif_follows =
        let h = v.depth in
        record {
          before = rw e (fun_ext (in_join st.current st.innermost.kept));
          after = λ w. ap₂ (λ bs ks. record { open_branches = bs; current = component_set w; kept = ks }) (joined_is branch_of) (joined_is kept_of) ∙ rw e;
          valid = λ w. record { depth = omega (arith, e, h); around = v.around };
        }

  pub follows : (f : code.Flow) → is_misplaced st f ≡ false → Follows st f n
  follows Plain m = plain_follows
  follows Opener m = opener_follows m
  follows Els m = go st.depth refl
    where
      go : (k : ℕ) → st.depth ≡ k → Follows st Els n
      go zero e = absurd (true≢false (sym (ap (λ b. b || st.innermost.els_met) (none_open st e)) ∙ m))
      go (suc d) e = els_follows d e
  follows Eif m = go st.depth refl
    where
      go : (k : ℕ) → st.depth ≡ k → Follows st Eif n
      go zero e = absurd (true≢false (sym (none_open st e) ∙ m))
      go (suc d) e = eif_follows d e
