use Rattle.std.proofs.Common.{◌≡◌, ℕ, ◌+◌, ◌<◌, List, [], ◌∷◌, ◌++◌, length, get_or, take, sym, ap, ◌∙◌}
use Rattle.std.proofs.lemmas.List.{take_more}
use Rattle.std.proofs.lemmas.List.Elements.{filter_map-append}
use Rattle.esm_model.specs.Records.{Record}
use Rattle.esm_model.specs.Setting.{Setting, record_at, records_at}
use Rattle.esm_ledger.specs.Ledger.{setting_of}
use Rattle.esm_next.proofs.event.records_of.Goals as goal

-- the records at one more place
one_more : (s : Setting) (n : ℕ) (xs : List ℕ) (i : ℕ) → i < length xs → records_at s n (take i xs) ++ records_at s n (get_or xs i 0 ∷ []) ≡ records_at s n (take (i + 1) xs)
one_more s n xs i within =
    sym (ap (records_at s n) (take_more xs i 0 within) ∙ filter_map-append (record_at s n) (take i xs) (get_or xs i 0 ∷ []))

pub loop-place-preserved : goal.loop-place-preserved
loop-place-preserved c =
    let s = setting_of c.args.ledger.now in
    c.in_ok-push_place.ensures
    ∙ (ap (λ (rs : List Record). rs ++ records_at s c.args.shard (get_or c.args.places.now c.loop-place.place-index 0 ∷ [])) c.loop-place.invariant
    ∙ one_more s c.args.shard c.args.places.now c.loop-place.place-index c.loop-place-test.true)
