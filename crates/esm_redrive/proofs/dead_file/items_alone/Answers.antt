use Rattle.std.proofs.Common.{◌≡◌, ◌++◌, [], List, ℕ, false, ap, ◌∙◌, subst}
use Rattle.esm_model.specs.declared.item.LineKind.{LineKind}
use Rattle.esm_model.specs.declared.item.LineKind.TheVariants as kinds
use Rattle.esm_record.specs.Input.{Feeding, input_so_far, input_of}
use Rattle.esm_redrive.proofs.dead_file.items_alone.Goals as goal

pub returns : goal.returns
returns c =
    let xs = c.in_ok-fed.fed.items.items in
    let made = c.in_ok-lines.ensures in
    let start : c.in_ok-lines.lines ≡ record { kind = kinds.Queue c.args.fifo; bytes = []; failed = false; finished = false } = cc in
    let kind : c.feed.new.self.kind ≡ kinds.Queue c.args.fifo = c.in_ok-feed.ensures.kind ∙ ap (λ (s : Feeding). s.kind) start in
    let bytes : c.feed.new.self.bytes ≡ c.args.payload.now = c.in_ok-feed.ensures.bytes ∙ ap (λ (s : Feeding). s.bytes ++ c.args.payload.now) start in
    subst (λ (k : LineKind). (input_so_far k c.args.payload.now).items ++ xs ≡ (input_of k c.args.payload.now).items) kind
    (subst (λ (b : List ℕ). (input_so_far c.feed.new.self.kind b).items ++ xs ≡ (input_of c.feed.new.self.kind b).items) bytes c.in_ok-fed.ensures.items)
