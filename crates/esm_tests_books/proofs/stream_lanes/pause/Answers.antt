use Rattle.std.proofs.Common.{refl}
use Rattle.esm_model.specs.declared.book.Next.TheVariants.{Idle}
use Rattle.esm_tests_books.proofs.Lanes.{still, still_rests, still_keeps}
use Rattle.esm_tests_books.proofs.stream_lanes.pause.Goals as goal

pub returns-clause-rests : goal.returns-clause-rests
returns-clause-rests c =
    let v = c.args.book.now.core in
    let w = c.next.new.self.core in
    let told = c.in_ok-until.ensures in
    still_rests v w c.args.batcher told.added.setting
    (still v w c.args.batcher c.args.moment c.in_ok-until.field-0 (Idle c.in-Idle.until) c.in-Idle.is (λ s h m. refl) told.answer told.added.added.past)
    c.requires

pub returns-clause-others : goal.returns-clause-others
returns-clause-others c =
    let v = c.args.book.now.core in
    let w = c.next.new.self.core in
    let told = c.in_ok-until.ensures in
    still_keeps v w c.args.batcher told.added.setting
    (still v w c.args.batcher c.args.moment c.in_ok-until.field-0 (Idle c.in-Idle.until) c.in-Idle.is (λ s h m. refl) told.answer told.added.added.past)
