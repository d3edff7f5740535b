-- What is promised of a core after any decision.
use Rattle.std.proofs.Common.{◌≡◌, ℕ, List, length, reverse, sym, ap, ap₂, ◌∙◌, subst, Option, None}
use Rattle.esm_model.specs.declared.item.Message.{Message}
use Rattle.esm_model.specs.declared.entry.Entry.{Entry}
use Rattle.esm_queue.specs.Held.{Held}
use Rattle.esm_queue_core.specs.declared.owed.First.{First}
use Rattle.esm_queue_core.specs.declared.owed.Gift.{Gift}
use Rattle.esm_queue_core.specs.declared.standing.Standing.TheVariants.{Whole}
use Rattle.esm_queue_core.specs.CoreView.{CoreView, LegalAhead, SettledAhead, owing}
use Rattle.esm_queue_core.specs.Kept.{Parts, IsKept, owed_entries, seen_of}
use Rattle.esm_queue_core.proofs.Keeping.{Decides, deciding, kept_decided, seen_decided, nothing_coming, legal_ahead, settled_ahead}

-- the parts after it, the entries of whose history stand so, oldest first
abbrev pub left_with : Parts → Held → ℕ → List Entry → List Message → Option First → Option Gift → Parts
left_with p held capacity items coming first gift = record p { held = held; capacity = capacity; past = reverse items; number = length items; coming = coming; first = first; gift = gift }

pub record IsDecided (q : Parts) (v : CoreView) (coming : List Message) (es : List Entry) : Type 0 where
  pub kept : IsKept q
  pub owes : seen_of q ≡ owing v coming es
  pub legal : LegalAhead (seen_of q)
  pub settled : SettledAhead (seen_of q)

left_is : (p : Parts) (held : Held) (capacity : ℕ) (old new : List Entry) (coming : List Message) (first : Option First) (gift : Option Gift) → p.past ≡ reverse old → p.number ≡ length old → new ≡ old → left_with p held capacity new coming first gift ≡ deciding p held capacity coming first gift
left_is p held capacity old new coming first gift past_is number_is same =
    ap (λ (items : List Entry). left_with p held capacity items coming first gift) same
    ∙ ap₂ (λ (h : List Entry) (n : ℕ). record p { held = held; capacity = capacity; past = h; number = n; coming = coming; first = first; gift = gift }) (sym past_is) (sym number_is)

pub is_decided : (p : Parts) (v : CoreView) (held : Held) (capacity : ℕ) (old new : List Entry) (coming : List Message) (first : Option First) (gift : Option Gift) (es : List Entry) → IsKept p → p.standing ≡ Whole → p.first ≡ None → seen_of p ≡ v → Decides p held capacity coming first gift → owed_entries first gift ≡ es
    → p.past ≡ reverse old → p.number ≡ length old → new ≡ old → IsDecided (left_with p held capacity new coming first gift) v coming es
is_decided p v held capacity old new coming first gift es k whole none seen d owed past_is number_is same =
    let is = left_is p held capacity old new coming first gift past_is number_is same in
    let kept = kept_decided p held capacity coming first gift k whole (nothing_coming p k none) d in
    subst (λ (q : Parts). IsDecided q v coming es) (sym is) (record {
      kept = kept;
      owes = seen_decided p held capacity coming first gift es d.same owed ∙ ap (λ (w : CoreView). owing w coming es) seen;
      legal = legal_ahead (deciding p held capacity coming first gift) kept whole;
      settled = settled_ahead (deciding p held capacity coming first gift) kept whole;
    })
