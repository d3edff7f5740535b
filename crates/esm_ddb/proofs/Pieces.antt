-- Text in pieces, read from its front.
use Rattle.std.proofs.Common.{◌≡◌, ◌∙◌, ℕ, sym, ap, List, [], ◌∷◌, ◌++◌, append_assoc}
use Rattle.std.specs.List.{concat}
use Rattle.std.proofs.lemmas.List.{append-nil}
use Rattle.std.proofs.lemmas.List.Folds.{concat-append}

pub pushed : (front piece : List ℕ) (others : List (List ℕ)) → front ++ concat (others ++ piece ∷ []) ≡ (front ++ concat others) ++ piece
pushed front piece others =
    ap (λ l. front ++ l) (concat-append others (piece ∷ []) ∙ ap (λ l. concat others ++ l) (append-nil piece)) ∙ sym (append_assoc front (concat others) piece)
