-- What the end of a call leaves of the pieces is what the definitions say.
use Rattle.std.proofs.Common.{◌≡◌, ℕ, ◌≤◌, List, ◌∷◌, length, take, drop, min, refl, sym, ap, ap₂, ◌∙◌, inl, inr, arith}
use Rattle.std.specs.List.{All}
use Rattle.std.proofs.lemmas.List.{take-map, drop-map, length-map, length-take-le, take_all, drop_all}
use Rattle.std.proofs.lemmas.List.Elements.{All-nil, All-head, All-tail, All-take, All-drop}
use Rattle.std.proofs.lemmas.Bool.{cases_lt}
use Rattle.esm_model.specs.Records.{Record}
use Rattle.esm_model.specs.declared.entry.Reply.{Reply}
use Rattle.esm_model.specs.declared.verdict.Rest.{Rest}
use Rattle.esm_model.specs.declared.verdict.Rest.TheVariants.{Nothing, Again, Counted, Split, Exhausted}
use Rattle.esm_model.specs.declared.verdict.Verdict.{Verdict}
use Rattle.esm_replay_model.specs.ReplaySetting.{ReplaySetting}
use Rattle.esm_replay_model.specs.Pieces.{ReplayPiece, piece, ahead, split_ahead, replay_verdict, pieces_after_call}
use Rattle.esm_replay.specs.declared.rows.Named.{Named}
use Rattle.esm_replay.specs.Rows.{places_of, Stands}
use Rattle.esm_replay.specs.Waiting.{NamedPiece, seen_pieces, put_ahead, IsPlaced}
use Rattle.esm_replay.specs.Ending.{split_first, split_rest, after_end}
use Rattle.esm_replay.proofs.FirstPieces.{seen_ahead, placed_ahead}

-- a count that is held to what there is takes as much

pub take_min : {X : Type 0} (k : ℕ) (xs : List X) → take (min k (length xs)) xs ≡ take k xs
take_min k xs =
    elim (cases_lt (length xs) k) [
      | inl more ↦ (let least : min k (length xs) ≡ length xs = omega arith in ap (λ (n : ℕ). take n xs) least ∙ take_all (length xs) xs (omega arith) ∙ sym (take_all k xs (omega arith)))
      | inr few ↦ (let least : min k (length xs) ≡ k = omega arith in ap (λ (n : ℕ). take n xs) least)
    ]

pub drop_min : {X : Type 0} (k : ℕ) (xs : List X) → drop (min k (length xs)) xs ≡ drop k xs
drop_min k xs =
    elim (cases_lt (length xs) k) [
      | inl more ↦ (let least : min k (length xs) ≡ length xs = omega arith in ap (λ (n : ℕ). drop n xs) least ∙ drop_all (length xs) xs (omega arith) ∙ sym (drop_all k xs (omega arith)))
      | inr few ↦ (let least : min k (length xs) ≡ k = omega arith in ap (λ (n : ℕ). drop n xs) least)
    ]

-- pieces

ends_seen : (n : ℕ) (first rest : List Named) (others : List NamedPiece) → seen_pieces (put_ahead n first (put_ahead n rest others)) ≡ ahead n (places_of first) (ahead n (places_of rest) (seen_pieces others))
ends_seen n first rest others = seen_ahead n first (put_ahead n rest others) ∙ ap (λ (ps : List ReplayPiece). ahead n (places_of first) ps) (seen_ahead n rest others)

split_seen : (r : Rest) (n : ℕ) (remaining : List Named) (others : List ReplayPiece) → ahead n (places_of (split_first r remaining)) (ahead n (places_of (split_rest r remaining)) others) ≡ split_ahead r n (places_of remaining) others
split_seen Nothing n remaining others = refl
split_seen Again n remaining others = refl
split_seen Counted n remaining others = refl
split_seen Exhausted n remaining others = refl
split_seen (Split k) n remaining others = ap₂ (λ (xs ys : List ℕ). ahead n xs (ahead n ys others)) (sym (take-map (λ (d : Named). d.place) k remaining)) (sym (drop-map (λ (d : Named). d.place) k remaining))

-- a call of the first records of the front piece ends
pub after_end_seen : (s : ReplaySetting) (reply : Reply) (p : NamedPiece) (others : List NamedPiece) (count : ℕ) (v : Verdict) → count ≤ length p.named → v ≡ replay_verdict s (piece p.shard (places_of (take count p.named))) reply
    → seen_pieces (after_end p.shard (split_first v.rest (drop v.succeeded (take count p.named))) (split_rest v.rest (drop v.succeeded (take count p.named))) count (p ∷ others))
    ≡ pieces_after_call s (piece p.shard (places_of (take count p.named))) reply (seen_pieces (p ∷ others))
after_end_seen s reply p others count v within is =
    let batch : List Named = take count p.named in
    let long : length (places_of batch) ≡ count = length-map batch (λ (d : Named). d.place) ∙ length-take-le count p.named within in
    let behind : seen_pieces (put_ahead p.shard (drop count p.named) others) ≡ ahead p.shard (drop (length (places_of batch)) (places_of p.named)) (seen_pieces others) =
    seen_ahead p.shard (drop count p.named) others
    ∙ ap (λ (xs : List ℕ). ahead p.shard xs (seen_pieces others)) (sym (drop-map (λ (d : Named). d.place) count p.named) ∙ ap (λ (k : ℕ). drop k (places_of p.named)) (sym long)) in
    ends_seen p.shard (split_first v.rest (drop v.succeeded batch)) (split_rest v.rest (drop v.succeeded batch)) (put_ahead p.shard (drop count p.named) others)
    ∙ split_seen v.rest p.shard (drop v.succeeded batch) (seen_pieces (put_ahead p.shard (drop count p.named) others))
    ∙ ap₂ (λ (xs : List ℕ) (ps : List ReplayPiece). split_ahead v.rest p.shard xs ps) (sym (drop-map (λ (d : Named). d.place) v.succeeded batch)) behind
    ∙ ap (λ (w : Verdict). split_ahead w.rest p.shard (drop w.succeeded (places_of batch)) (ahead p.shard (drop (length (places_of batch)) (places_of p.named)) (seen_pieces others))) is

-- records stand where they did

split_first_stands : (s : ReplaySetting) (rs : List Record) (n : ℕ) (r : Rest) (ds : List Named) → All (Stands s rs n) ds → All (Stands s rs n) (split_first r ds)
split_first_stands s rs n Nothing ds all = All-nil (Stands s rs n)
split_first_stands s rs n Again ds all = All-nil (Stands s rs n)
split_first_stands s rs n Counted ds all = All-nil (Stands s rs n)
split_first_stands s rs n Exhausted ds all = All-nil (Stands s rs n)
split_first_stands s rs n (Split k) ds all = All-take (Stands s rs n) k ds all

split_rest_stands : (s : ReplaySetting) (rs : List Record) (n : ℕ) (r : Rest) (ds : List Named) → All (Stands s rs n) ds → All (Stands s rs n) (split_rest r ds)
split_rest_stands s rs n Nothing ds all = All-nil (Stands s rs n)
split_rest_stands s rs n Again ds all = All-nil (Stands s rs n)
split_rest_stands s rs n Counted ds all = All-nil (Stands s rs n)
split_rest_stands s rs n Exhausted ds all = All-nil (Stands s rs n)
split_rest_stands s rs n (Split k) ds all = All-drop (Stands s rs n) k ds all

pub after_end_placed : (s : ReplaySetting) (rs : List Record) (p : NamedPiece) (others : List NamedPiece) (count : ℕ) (v : Verdict) → All (IsPlaced s rs) (p ∷ others)
    → All (IsPlaced s rs) (after_end p.shard (split_first v.rest (drop v.succeeded (take count p.named))) (split_rest v.rest (drop v.succeeded (take count p.named))) count (p ∷ others))
after_end_placed s rs p others count v all =
    let own : All (Stands s rs p.shard) p.named = All-head (IsPlaced s rs) p others all in
    let remaining : All (Stands s rs p.shard) (drop v.succeeded (take count p.named)) = All-drop (Stands s rs p.shard) v.succeeded (take count p.named) (All-take (Stands s rs p.shard) count p.named own) in
    placed_ahead s rs p.shard (split_first v.rest (drop v.succeeded (take count p.named))) (put_ahead p.shard (split_rest v.rest (drop v.succeeded (take count p.named))) (put_ahead p.shard (drop count p.named) others))
    (split_first_stands s rs p.shard v.rest (drop v.succeeded (take count p.named)) remaining)
    (placed_ahead s rs p.shard (split_rest v.rest (drop v.succeeded (take count p.named))) (put_ahead p.shard (drop count p.named) others)
    (split_rest_stands s rs p.shard v.rest (drop v.succeeded (take count p.named)) remaining)
    (placed_ahead s rs p.shard (drop count p.named) others (All-drop (Stands s rs p.shard) count p.named own) (All-tail (IsPlaced s rs) p others all)))
