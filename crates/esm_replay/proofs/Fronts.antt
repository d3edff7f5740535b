-- The first piece, and that each piece has a record.
use Rattle.std.proofs.Common.{◌≡◌, ℕ, ◌≤◌, List, [], ◌∷◌, length, take, drop, sym, ap, ap₂, ◌∙◌, subst, arith, Some}
use Rattle.std.specs.Prelude.{slice_get}
use Rattle.std.specs.List.{All}
use Rattle.std.proofs.lemmas.Option.{same_Some}
use Rattle.std.proofs.lemmas.List.Elements.{All-cons, All-head, All-tail}
use Rattle.esm_model.specs.Records.{Record}
use Rattle.esm_model.specs.declared.config.Config.{Config}
use Rattle.esm_model.specs.declared.verdict.Verdict.{Verdict}
use Rattle.esm_model.specs.Setting.{records_at}
use Rattle.esm_model.specs.Batches.{longest}
use Rattle.esm_replay_model.specs.ReplaySetting.{ReplaySetting, config_of}
use Rattle.esm_replay_model.specs.Pieces.{piece}
use Rattle.esm_replay.specs.declared.rows.Named.{Named}
use Rattle.esm_replay.specs.declared.batch.Batch.{Batch}
use Rattle.esm_replay.specs.declared.parts.Parts.{Parts}
use Rattle.esm_replay.specs.Rows.{places_of, Stands}
use Rattle.esm_replay.specs.Waiting.{NamedPiece, seen_pieces, put_ahead, without_front, front_of, HasNamed, IsPlaced}
use Rattle.esm_replay.specs.Batch.{IsPlacedIn, IsBatchOf, IsNextBatch, AreWithin, StandWithin, fits_for, batch_records}
use Rattle.esm_replay.specs.Ending.{split_first, split_rest, after_end, ArePartsOf, EndsSo, StaysPlaced}
use Rattle.esm_replay.proofs.Ends.{after_end_seen, after_end_placed}

pub record IsFirst (p : NamedPiece) (ps : List NamedPiece) : Type 0 where
  pub others : List NamedPiece
  pub is : ps ≡ p ∷ others

pub first_of : (p : NamedPiece) (ps : List NamedPiece) → slice_get ps 0 ≡ Some p → IsFirst p ps
first_of p [] at = absurd cc
first_of p (q ∷ ps) at = record { others = ps; is = ap (λ (x : NamedPiece). x ∷ ps) (same_Some q p at) }

pub filled_ahead : (n : ℕ) (ds : List Named) (others : List NamedPiece) → All HasNamed others → All HasNamed (put_ahead n ds others)
filled_ahead n [] others all = all
filled_ahead n (d ∷ ds) others all = All-cons HasNamed (record { shard = n; named = d ∷ ds }) others (omega arith) all

pub filled_without : (count : ℕ) (ps : List NamedPiece) → All HasNamed ps → All HasNamed (without_front count ps)
filled_without count [] all = all
filled_without count (p ∷ ps) all = filled_ahead p.shard (drop count p.named) ps (All-tail HasNamed p ps all)

-- the next call of the first piece is the next call
pub next_is : (s : ReplaySetting) (c : Config) (rs : List Record) (p : NamedPiece) (ps : List NamedPiece) (n : ℕ) (ds : List Named) (batch : Batch) → n ≡ p.shard → ds ≡ p.named → slice_get ps 0 ≡ Some p
    → config_of s ≡ c → All (IsPlaced s rs) ps → (IsPlacedIn s c rs n ds → IsBatchOf s rs n ds batch) → IsNextBatch s rs ps (Some batch)
next_is s c rs p ps n ds batch shard named at is all gives =
    let first : IsFirst p ps = first_of p ps at in
    let own : All (Stands s rs p.shard) p.named = All-head (IsPlaced s rs) p first.others (subst (λ (qs : List NamedPiece). All (IsPlaced s rs) qs) first.is all) in
    let stand : All (Stands s rs n) ds = subst (λ (m : ℕ). All (Stands s rs m) ds) (sym shard) (subst (λ (xs : List Named). All (Stands s rs p.shard) xs) (sym named) own) in
    let b : IsBatchOf s rs n ds batch = gives (record { config_is = is; stand = stand }) in
    subst (λ (qs : List NamedPiece). IsNextBatch s rs qs (Some batch)) (sym first.is) (
      ap (λ (m : ℕ). piece m batch.places) (b.0 ∙ shard) ∙ ap (λ (xs : List ℕ). piece p.shard xs) (b.1 ∙ ap₂ (λ (m : ℕ) (xs : List Named). longest (fits_for s m) [] (places_of xs)) shard named),
      subst (λ (m : ℕ). batch_records rs batch ≡ records_at s.base m batch.places) (sym b.0) b.2,
      b.3,
    )

pub within_first : (k : ℕ) (p : NamedPiece) (ps : List NamedPiece) (ds : List Named) → slice_get ps 0 ≡ Some p → ds ≡ p.named → StandWithin k ps → AreWithin k ds
within_first k p ps ds at named all =
    let first : IsFirst p ps = first_of p ps at in
    subst (λ (xs : List Named). AreWithin k xs) (sym named) (All-head (λ (q : NamedPiece). AreWithin k q.named) p first.others (subst (λ (qs : List NamedPiece). StandWithin k qs) first.is all))

-- the end of a call

parted : (count : ℕ) (parts : Parts) (p : NamedPiece) (others : List NamedPiece) (v : Verdict) → ArePartsOf v count (p ∷ others) parts
    → put_ahead parts.first.shard parts.first.named (put_ahead parts.rest.shard parts.rest.named (without_front count (p ∷ others)))
    ≡ after_end p.shard (split_first v.rest (drop v.succeeded (take count p.named))) (split_rest v.rest (drop v.succeeded (take count p.named))) count (p ∷ others)
parted count parts p others v are =
    ap₂ (λ (a b : NamedPiece). put_ahead a.shard a.named (put_ahead b.shard b.named (without_front count (p ∷ others)))) are.0 are.1

pub ended_so : (count : ℕ) (parts : Parts) (before after : List NamedPiece) → count ≤ length (front_of before)
    → after ≡ put_ahead parts.first.shard parts.first.named (put_ahead parts.rest.shard parts.rest.named (without_front count before)) → EndsSo count parts before after
ended_so count parts [] after within is = λ s reply v are ruled. absurd are
ended_so count parts (p ∷ others) after within is = λ s reply v are ruled.
    ap (λ (ps : List NamedPiece). seen_pieces ps) (is ∙ parted count parts p others v are) ∙ after_end_seen s reply p others count v within ruled

pub stays_placed : (count : ℕ) (parts : Parts) (before after : List NamedPiece)
    → after ≡ put_ahead parts.first.shard parts.first.named (put_ahead parts.rest.shard parts.rest.named (without_front count before)) → StaysPlaced count parts before after
stays_placed count parts [] after is = λ s rs v are all. absurd are
stays_placed count parts (p ∷ others) after is = λ s rs v are all.
    subst (λ (ps : List NamedPiece). All (IsPlaced s rs) ps) (sym (is ∙ parted count parts p others v are)) (after_end_placed s rs p others count v all)

pub filled_after : (count : ℕ) (parts : Parts) (before after : List NamedPiece) → All HasNamed before
    → after ≡ put_ahead parts.first.shard parts.first.named (put_ahead parts.rest.shard parts.rest.named (without_front count before)) → All HasNamed after
filled_after count parts before after all is =
    subst (λ (ps : List NamedPiece). All HasNamed ps) (sym is)
    (filled_ahead parts.first.shard parts.first.named (put_ahead parts.rest.shard parts.rest.named (without_front count before))
    (filled_ahead parts.rest.shard parts.rest.named (without_front count before) (filled_without count before all)))
