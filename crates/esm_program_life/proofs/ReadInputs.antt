-- What was read of an input whose reading came to an end, and of one that want of memory stopped.
use Rattle.std.proofs.Common.{◌≡◌, ◌∙◌, ℕ, List, [], Option, ap, append-nil, refl, subst, sym}
use Rattle.esm_input.specs.Positions.{from_start}
use Rattle.esm_input.specs.Reading.{InputState, IsInput, handed, items_read}
use Rattle.esm_io.specs.Told.{IsAtEnd, TakesFront}
use Rattle.esm_model.specs.declared.config.Start.{Start}
use Rattle.esm_model.specs.declared.item.LineKind.{LineKind}
use Rattle.esm_program_life.specs.Reads.{HasRead}

pub all_read : {S : Type 0} (faults : S → ℕ) (left : S → Option (List ℕ)) (status : ℕ) (kind : LineKind) (factor : ℕ) (start : Start) (old new : S) (i : InputState S) → i.kind ≡ kind → i.factor ≡ factor → i.start ≡ start → i.found ≡ old → i.source ≡ new → IsInput faults left i
    → HasRead left kind factor start status old new (handed i)
all_read faults left status kind factor start old new i kind_is factor_is start_is found_is source_is is = record {
  bytes = i.bytes;
  more = [];
  whole = i.whole;
  taken = subst (TakesFront (left old) (left new)) (sym (append-nil i.bytes))
      (subst (λ s. TakesFront (left s) (left new) i.bytes) found_is (subst (λ s. TakesFront (left i.found) (left s) i.bytes) source_is is.taken));
  items_are = ap (λ k. from_start i.start (items_read k i.factor i.whole i.bytes).items) kind_is
      ∙ (ap (λ f. from_start i.start (items_read kind f i.whole i.bytes).items) factor_is ∙ ap (λ s. from_start s (items_read kind factor i.whole i.bytes).items) start_is);
  no_more = λ known. refl;
  at_end = λ known whole. subst (λ s. IsAtEnd (left s)) source_is (is.at_end whole);
}
