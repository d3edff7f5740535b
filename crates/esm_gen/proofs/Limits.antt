-- Where no item passes a limit, all items are within them.
use Rattle.std.proofs.Common.{◌≡◌, ℕ, List, [], ◌∷◌, ◌++◌, Option, Some, None, sym, ◌∙◌, append_assoc, append-nil}
use Rattle.esm_input.specs.Limits.{Limited, limited_after, passed, stop_at}
use Rattle.esm_model.specs.declared.item.Item.{Item}
use Rattle.esm_model.specs.declared.names.LimitName.{LimitName}

unless_passed : (limit : Option LimitName) (before all : List Item) (more : Limited) → (more.limit ≡ None → more.items ≡ all)
    → (stop_at before limit more).limit ≡ None → (stop_at before limit more).items ≡ all
unless_passed (Some limit) before all more f none = cc none
unless_passed None before all more f none = f none

pub limited_all : (factor : ℕ) (before xs : List Item) → (limited_after factor before xs).limit ≡ None → (limited_after factor before xs).items ≡ before ++ xs
limited_all factor before [] none = sym (append-nil before)
limited_all factor before (x ∷ xs) none =
    unless_passed (passed factor before x) before (before ++ x ∷ xs) (limited_after factor (before ++ x ∷ []) xs)
    (λ e. limited_all factor (before ++ x ∷ []) xs e ∙ append_assoc before (x ∷ []) xs) none
