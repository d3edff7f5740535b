use Rattle.std.proofs.Common.{refl}
use Rattle.esm_model.specs.declared.book.Next.TheVariants.{Finished}
use Rattle.esm_tests_books.proofs.Lanes.{still, still_keeps}
use Rattle.esm_tests_books.proofs.stream_lanes.finish.Goals as goal

pub returns : goal.returns
returns c =
    let v = c.args.book.now.core in
    let w = c.next.new.self.core in
    let told = c.in_ok-next.ensures in
    still_keeps v w c.args.batcher told.added.setting
    (still v w c.args.batcher c.args.moment c.in_ok-next.field-0 Finished c.in-Finished.is (λ s h m. refl) told.answer told.added.added.past)
