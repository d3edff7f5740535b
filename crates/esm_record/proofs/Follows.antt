-- What is said of an item, from what is kept of the items before.
use Rattle.std.proofs.Common.{◌≡◌, ℕ, Bool, true, false, List, [], ◌∷◌, ◌++◌, Option, None, Result, refl, sym, ap, ◌∙◌}
use Rattle.std.specs.Prelude.{◌||◌}
use Rattle.std.specs.Str.{bytes_eq}
use Rattle.std.proofs.lemmas.List.Sums.{fold-append}
use Rattle.std.proofs.lemmas.List.Folds.{list_any-append}
use Rattle.esm_model.specs.Records.{Record}
use Rattle.esm_model.specs.declared.item.Message.{Message}
use Rattle.esm_record.specs.declared.error.LineError.{LineError}
use Rattle.esm_record.specs.declared.error.Refusal.{Refusal}
use Rattle.esm_record.specs.declared.error.Refusal.TheVariants as refusal
use Rattle.esm_model.specs.declared.item.Item.{Item}
use Rattle.esm_model.specs.declared.item.Item.TheVariants.{Stream, Queue}
use Rattle.esm_record.specs.declared.seen.Seen.{Seen}
use Rattle.esm_record.specs.Gives.{Fails}
use Rattle.esm_record.specs.Ids.{stood_in}
use Rattle.esm_record.specs.Numbers.{number_in}
use Rattle.esm_record.specs.Seen.{Follows}
use Rattle.esm_record.specs.Input.{number_after, has_id, has_stood, some_item}

pub item_fails : {A : Type 0} (make : A → Item) (e : Refusal) (a b : Result A LineError) → a ≡ b → Fails e a → Fails e (some_item make b)
item_fails make refusal.OutOfMemory a b same fails = tt
item_fails make (refusal.Line why) a b same fails = ap (some_item make) (sym same ∙ fails)

-- ---- one item more

or_none : (b : Bool) → (b || (false || false)) ≡ b
or_none true = refl
or_none false = refl

or_one : (a b : Bool) → (b || (a || false)) ≡ (a || b)
or_one true true = refl
or_one true false = refl
or_one false true = refl
or_one false false = refl

pub record_follows : (items : List Item) (r : Record) (old new : Seen) → Follows items old → ((shard : ℕ) → number_in new.numbers shard ≡ number_after shard (number_in old.numbers shard) (Stream r)) → new.ids ≡ old.ids → Follows (items ++ Stream r ∷ []) new
record_follows items r old new follows number ids = record {
  number = λ shard. number shard ∙ ap (λ (last : Option (List ℕ)). number_after shard last (Stream r)) (follows.number shard) ∙ sym (fold-append (number_after shard) None items (Stream r ∷ []));
  id = λ id. ap (λ s. stood_in s id) ids ∙ follows.id id ∙ sym (list_any-append (has_id id) items (Stream r ∷ []) ∙ or_none (has_stood id items));
}

pub message_follows : (items : List Item) (m : Message) (old new : Seen) → Follows items old → ((id : List ℕ) → stood_in new.ids id ≡ (bytes_eq m.id id || stood_in old.ids id)) → new.numbers ≡ old.numbers → Follows (items ++ Queue m ∷ []) new
message_follows items m old new follows ids numbers = record {
  number = λ shard. ap (λ n. number_in n shard) numbers ∙ follows.number shard ∙ sym (fold-append (number_after shard) None items (Queue m ∷ []));
  id = λ id. ids id ∙ ap (λ (stood : Bool). bytes_eq m.id id || stood) (follows.id id) ∙ sym (list_any-append (has_id id) items (Queue m ∷ []) ∙ or_one (bytes_eq m.id id) (has_stood id items));
}
