use Rattle.std.proofs.Common.{◌≡◌, [], length}
use Rattle.esm_io.specs.Meanings.{disk, destination}
use Rattle.esm_book.specs.Decided.{added}
use Rattle.esm_book.specs.Meanings.{decisions}
use Rattle.esm_book.specs.Writing.{IsReady, Writes}
use Rattle.esm_book.proofs.writing.write_owed.Given as goal

abbrev pub invariant-owed : goal.invariant-owed
invariant-owed g l = record {
  payable : g.C.Decisions.payable l.core;
  ready : IsReady (decisions g.C.Decisions) (destination g.T.Dest) g.T.Dest.has_room l.core l.pair l.dest;
  so_far : Writes (decisions g.C.Decisions) (disk g.D.Disk) (destination g.T.Dest)
      (g.C.Decisions.history l.fn.core) (g.C.Decisions.owed l.fn.core) l.core l.fn.pair l.pair l.fn.dest l.dest (added (g.C.Decisions.history l.fn.core) (g.C.Decisions.history l.core)) [] [];
  origin : g.C.Decisions.origin l.core ≡ g.C.Decisions.origin l.fn.core;
}

abbrev pub decreases-owed : goal.decreases-owed
decreases-owed g l = length (g.C.Decisions.owed l.core)
