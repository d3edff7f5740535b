-- Bytes that were read ahead are those that the file has from their place on.
use Rattle.std.proofs.Common.{◌≡◌, ℕ, ◌+◌, ◌-◌, ◌≤◌, List, length, take, drop, arith, ap, ◌∙◌}
use Rattle.std.proofs.lemmas.List.{drop-drop, drop-take, take-take}

-- so many bytes cut out of them
pub cut : (content part : List ℕ) (start place count : ℕ) → part ≡ take (length part) (drop start content) → start ≤ place → place + count ≤ start + length part
    → take count (drop (place - start) part) ≡ take count (drop place content)
cut content part start place count is from to =
    let passed = place - start in
    let rest = length part - passed in
    ap (λ l. take count (drop passed l)) is
    ∙ ap (λ n. take count (drop passed (take n (drop start content)))) (omega arith)
    ∙ ap (take count) (drop-take passed rest (drop start content))
    ∙ take-take count rest (drop passed (drop start content)) (omega arith)
    ∙ ap (take count) (drop-drop passed start content)
    ∙ ap (λ n. take count (drop n content)) (omega arith)
