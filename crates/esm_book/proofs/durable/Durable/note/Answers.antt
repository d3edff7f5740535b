use Rattle.std.proofs.Common.{subst, sym}
use Rattle.esm_io.specs.Meanings.{disk, destination}
use Rattle.esm_book.specs.Decided.{added}
use Rattle.esm_book.specs.Meanings.{decisions}
use Rattle.esm_book.specs.State.{IsReason}
use Rattle.esm_book.proofs.Keeping.{kept_noted}
use Rattle.esm_book.proofs.durable.Durable.note.Goals as goal

pub invariant_of-self : goal.invariant_of-self
invariant_of-self g c =
    let k = decisions g.C.Decisions in
    let m = disk g.D.Disk in
    let n = destination g.T.Dest in
    let s = c.self.inside in
    let new = c.note.new.self in (
      kept_noted k m n s.core new s.pair s.found.value s.dest s.found_dest.value s.trouble (added (k.history s.core) (k.history new))
          c.self.invariant.0 c.note.ensures.history c.note.ensures.no_payload c.note.ensures.no_line c.note.ensures.owed,
      subst (λ o. IsReason (g.C.Decisions.is_change o) s.trouble) (sym c.note.ensures.origin) c.self.invariant.1,
    )
