-- The call that is out is the front of the first piece that waits.
use Rattle.std.proofs.Common.{◌≡◌, ℕ, ◌+◌, ◌≤◌, Bool, true, List, [], ◌∷◌, ◌++◌, length, take, refl, sym, ap, ap₂, ◌∙◌, subst, inl, inr, arith, Some, None}
use Rattle.std.specs.Prelude.{nat_le}
use Rattle.std.specs.List.{All}
use Rattle.std.proofs.lemmas.Bool.{cases_Bool, and_parts, leb-true}
use Rattle.std.proofs.lemmas.List.{length-map, length-append, take-map, length-take-le}
use Rattle.std.proofs.lemmas.List.Elements.{All-head, All-take}
use Rattle.esm_model.specs.declared.limits.TheConstants.{MAX_BATCH}
use Rattle.esm_model.specs.declared.config.Config.{Config}
use Rattle.esm_model.specs.declared.config.Kind.{Kind}
use Rattle.esm_model.specs.declared.config.Kind.TheVariants.{Stream, Standard, Fifo}
use Rattle.esm_model.specs.Records.{Record}
use Rattle.esm_model.specs.declared.entry.Entry.{Entry}
use Rattle.esm_model.specs.declared.entry.Entry.TheVariants.{Came, Began, Ended, Gave, Tried, Closed, Replayed, Shut}
use Rattle.esm_model.specs.Setting.{sequences_at}
use Rattle.esm_model.specs.Valid.{IsStreamConfig, is_batch_size}
use Rattle.esm_model.specs.Batches.{longest}
use Rattle.esm_replay_model.specs.ReplaySetting.{ReplaySetting, config_of}
use Rattle.esm_replay_model.specs.Pieces.{ReplayPiece, piece, replay_fits, next_call}
use Rattle.esm_replay_model.specs.ReplayRun.{call_out, owed_replay, pieces_left, MayBeginReplay, IsReplay}
use Rattle.esm_replay_model.proofs.Counting.{longest_front}
use Rattle.esm_replay.specs.declared.rows.Named.{Named}
use Rattle.esm_replay.specs.Rows.{places_of, Stands}
use Rattle.esm_replay.specs.Waiting.{NamedPiece, seen_pieces, front_of, IsPlaced}
use Rattle.esm_replay.specs.Ending.{front_call}
use Rattle.esm_replay_core.proofs.Standing.{as_many}

-- a call that is out

pub record IsOut (s : ReplaySetting) (h : List Entry) : Type 0 where
  pub call : call_out h ≡ next_call s (pieces_left s h)
  pub paid : (owed_replay s h).places ≡ []

pub out_of : (s : ReplaySetting) (h : List Entry) → IsReplay s h → 1 ≤ length (call_out h).places → IsOut s h
out_of s [] run some = absurd (omega arith)
out_of s (Began lane places None m ∷ h) run some =
    let may : MayBeginReplay s h lane places = run.1.1 in
    record { call = ap₂ (λ (n : ℕ) (xs : List ℕ). piece n xs) (ap (λ l. l.shard) may.lane_is) may.exact; paid = refl }
out_of s (Began lane places (Some window) m ∷ h) run some = absurd run.1.1
out_of s (Ended lane reply m ∷ h) run some = absurd (omega arith)
out_of s (Came shard first count m ∷ h) run some = absurd (omega arith)
out_of s (Gave by shard places f line state m ∷ h) run some = absurd (omega arith)
out_of s (Tried lane places closing tries m ∷ h) run some = absurd (omega arith)
out_of s (Closed lane window m ∷ h) run some = absurd (omega arith)
out_of s (Replayed shard places m ∷ h) run some = absurd (omega arith)
out_of s (Shut m ∷ h) run some = absurd (omega arith)

-- the front of what waits

longest_few : (p : List ℕ → Bool) (b : ℕ) (seen xs : List ℕ) → length seen ≤ b → ((ys : List ℕ) → p ys ≡ true → length ys ≤ b) → length (longest p seen xs) ≤ b
longest_few p b seen [] low each = low
longest_few p b seen (x ∷ xs) low each =
    elim (cases_Bool (p (seen ++ x ∷ []))) [
      | inl is ↦ rw is (longest_few p b (seen ++ x ∷ []) xs (each (seen ++ x ∷ []) is) each)
      | inr fails ↦ rw fails low
    ]

take_front : (xs ys : List ℕ) → take (length xs) (xs ++ ys) ≡ xs
take_front [] ys = refl
take_front (x ∷ xs) ys = ap (λ (zs : List ℕ). x ∷ zs) (take_front xs ys)

pub record IsFront (s : ReplaySetting) (ps : List NamedPiece) (call : ReplayPiece) : Type 0 where
  pub within : length call.places ≤ length (front_of ps)
  pub call_is : front_call (length call.places) ps ≡ call
  pub few : length call.places ≤ (config_of s).batch_size

pub front_is : (s : ReplaySetting) (ps : List NamedPiece) → IsFront s ps (next_call s (seen_pieces ps))
front_is s [] = record { within = omega arith; call_is = refl; few = omega arith }
front_is s (p ∷ others) =
    let fits : List ℕ → Bool = λ places. replay_fits s (piece p.shard places) in
    let all : List ℕ = places_of p.named in
    let front : List ℕ = longest fits [] all in
    let found : (back : List ℕ) × (all ≡ front ++ back) = longest_front fits [] all in
    let long : length all ≡ length p.named = length-map p.named (λ (d : Named). d.place) in
    let both : length all ≡ length front + length found.0 = ap (λ (xs : List ℕ). length xs) found.1 ∙ length-append front found.0 in
    record {
      within = omega (arith, long, both);
      call_is = ap (piece p.shard) (sym (take-map (λ (d : Named). d.place) (length front) p.named) ∙ ap (take (length front)) found.1 ∙ take_front front found.0);
      few = longest_few fits (config_of s).batch_size [] all (omega arith) (λ ys is. leb-true (length ys) (config_of s).batch_size (and_parts (nat_le (length ys) (config_of s).batch_size) _ is).0);
    }

-- so is the call that is out
pub front_out : (s : ReplaySetting) (h : List Entry) (ps : List NamedPiece) → IsReplay s h → 1 ≤ length (call_out h).places → seen_pieces ps ≡ pieces_left s h → IsFront s ps (call_out h)
front_out s h ps run some seen =
    subst (IsFront s ps) (ap (next_call s) seen ∙ sym (out_of s h run some).call) (front_is s ps)

-- it has as many sequence numbers as records
pub names_long : (s : ReplaySetting) (rs : List Record) (ps : List NamedPiece) (call : ReplayPiece) → IsFront s ps call → 1 ≤ length call.places → All (IsPlaced s rs) ps → length (sequences_at s.base call.shard call.places) ≡ length call.places
names_long s rs [] call front some all = (let l = front.within in absurd (omega arith))
names_long s rs (p ∷ others) call front some all =
    let count : ℕ = length call.places in
    let own : All (Stands s rs p.shard) (take count p.named) = All-take (Stands s rs p.shard) count p.named (All-head (IsPlaced s rs) p others all) in
    ap (λ (c : ReplayPiece). length (sequences_at s.base c.shard c.places)) (sym front.call_is)
    ∙ as_many s rs p.shard (take count p.named) own
    ∙ length-take-le count p.named front.within

-- a mapping's batch is no larger than batches are
pub few_in_batch : (c : Config) → IsStreamConfig c → c.batch_size ≤ MAX_BATCH
few_in_batch c is = sized c.kind is.kind is.valid.batch_size
  where
    sized : (k : Kind) → k ≡ Stream → is_batch_size k c.batch_size ≡ true → c.batch_size ≤ MAX_BATCH
    sized Stream e within = leb-true c.batch_size MAX_BATCH (and_parts (nat_le 1 c.batch_size) _ within).1
    sized Standard e within = absurd cc
    sized Fifo e within = absurd cc
