-- A payload is what stands in front of its names, and then they.
use Rattle.std.proofs.Common.{◌≡◌, ℕ, List, [], ◌∷◌, ◌++◌, length, Option, sym, ap, ◌∙◌, append_assoc}
use Rattle.esm_model.specs.declared.entry.Fate.{Fate}
use Rattle.esm_model.specs.declared.entry.WindowState.{WindowState}
use Rattle.esm_journal_record.specs.declared.said.Said.TheVariants.{Fates, Tried}
use Rattle.esm_journal_record.specs.Payload.{payload_of, names_bytes, named_bytes, eight, four, flagged_bytes, fate_byte}
use Rattle.esm_journal_record.specs.Fronts.{fates_front, tried_front}

pub fates_join : (shard : ℕ) (fate : Fate) (moment : ℕ) (state : Option WindowState) (count : ℕ) (places : List ℕ) (texts : List (List ℕ)) → length places ≡ count
    → fates_front shard fate moment state count ++ names_bytes places texts ≡ payload_of (Fates shard fate moment state places texts)
unfolding named_bytes
fates_join shard fate moment state count places texts same =
    let names = names_bytes places texts in
    let rest = flagged_bytes state ++ four count in
    ap (λ (xs : List ℕ). 1 ∷ xs) (append_assoc (eight shard) (fate_byte fate ∷ (eight moment ++ rest)) names)
    ∙ ap (λ (xs : List ℕ). 1 ∷ (eight shard ++ (fate_byte fate ∷ xs))) (append_assoc (eight moment) rest names ∙ ap (λ (xs : List ℕ). eight moment ++ xs) (append_assoc (flagged_bytes state) (four count) names))
    ∙ ap (λ (n : ℕ). 1 ∷ (eight shard ++ (fate_byte fate ∷ (eight moment ++ (flagged_bytes state ++ (four n ++ names)))))) (sym same)

pub tried_join : (shard moment tries count : ℕ) (places : List ℕ) (texts : List (List ℕ)) → length places ≡ count
    → tried_front shard moment tries count ++ names_bytes places texts ≡ payload_of (Tried shard moment tries places texts)
unfolding named_bytes
tried_join shard moment tries count places texts same =
    let names = names_bytes places texts in
    let rest = four tries ++ four count in
    ap (λ (xs : List ℕ). 5 ∷ xs) (append_assoc (eight shard) (eight moment ++ rest) names)
    ∙ ap (λ (xs : List ℕ). 5 ∷ (eight shard ++ xs)) (append_assoc (eight moment) rest names ∙ ap (λ (xs : List ℕ). eight moment ++ xs) (append_assoc (four tries) (four count) names))
    ∙ ap (λ (n : ℕ). 5 ∷ (eight shard ++ (eight moment ++ (four tries ++ (four n ++ names))))) (sym same)

-- in front of nothing else
pub alone : (front names all out : List ℕ) (begun : List ℕ) → begun ≡ [] → out ≡ begun ++ front → front ++ names ≡ all → out ++ names ≡ all
alone front names all out begun empty is joins = rw (is, empty) joins

-- behind what was written before
pub behind : (before front names all mid now : List ℕ) → mid ≡ before ++ front → now ≡ mid ++ names → front ++ names ≡ all → now ≡ before ++ all
behind before front names all mid now begun is joins = is ∙ ap (λ (xs : List ℕ). xs ++ names) begun ∙ append_assoc before front names ∙ ap (λ (xs : List ℕ). before ++ xs) joins
