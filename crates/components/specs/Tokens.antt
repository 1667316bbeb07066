-- Document 01, "Ways, reads and writes": a token record as paths see it.
use Rattle.std.specs.Prelude.{List}
use Rattle.std.proofs.Math.Option.{Option}
use Rattle.layout.specs.Opcodes.{flow_of}
use Rattle.layout.specs.declared.opcodes.Flow as opcodes
use Rattle.layout.specs.declared.opcodes.Flow.TheVariants.{Plain, Opener, Els, Eif}
use Rattle.layout.specs.declared.record.Token.{Token}
use Rattle.paths.specs.Paths.{Flow, plain, opener, els, eif, Source, source1, source2, TokenFault, PathToken}
use Rattle.components.specs.Reads.{Component, reads1, reads2, writes, temporaries}

-- what an opcode does to branches, as paths have it
abbrev pub path_flow : opcodes.Flow → Flow
path_flow Plain = plain
path_flow Opener = opener
path_flow Els = els
path_flow Eif = eif

-- what is read through each source
abbrev pub reads : Token → Source → List Component
reads t source1 = reads1 t
reads t source2 = reads2 t

-- a record whose first fault of 9 to 19 is this
abbrev pub path_token_of : Option TokenFault → Token → PathToken
path_token_of fault t = record {
  flow = path_flow (flow_of t.opcode);
  reads = λ s. temporaries (reads t s);
  writes = temporaries (writes t);
  fault = fault;
}
