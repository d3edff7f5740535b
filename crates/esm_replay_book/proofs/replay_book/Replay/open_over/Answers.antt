use Rattle.std.proofs.Common.{ap, ◌∙◌, sym}
use Rattle.std.specs.Prelude.{length}
use Rattle.esm_replay_book.specs.Books.{BookState}
use Rattle.esm_replay_book.proofs.Standing.{sound_new}
use Rattle.esm_replay_book.proofs.replay_book.Replay.open_over.Goals as goal

pub invariant_of-result : goal.invariant_of-result
invariant_of-result g c =
    let over = c.in-Ok.ensures.opened in
    let is = ap (λ (b : BookState g.row.D.Denot). b.core) c.new.ensures ∙ over.is in
    (sound_new c.new.result _ (ap (λ (b : BookState g.row.D.Denot). b.trouble) c.new.ensures) is, sym (ap (λ v. length v.records) is))
