-- The calls of a batcher stay when the history goes on, and so does the number of a lane's batcher.
use Rattle.std.proofs.Common.{◌≡◌, ℕ, ◌+◌, ◌*◌, ◌≤◌, Bool, true, false, not, cond, ◌||◌, List, [], ◌∷◌, ◌++◌, refl, sym, ap, ◌∙◌, subst, inl, inr, arith, append_assoc}
use Rattle.std.specs.Prelude.{◌==◌}
use Rattle.std.specs.List.{prefix_len}
use Rattle.std.proofs.lemmas.List.{append-nil}
use Rattle.std.proofs.lemmas.Bool.{cases_Bool, eqb-true, eq-eqb}
use Rattle.esm_model.specs.declared.lane.LaneId.{LaneId}
use Rattle.esm_model.specs.declared.entry.Entry.{Entry}
use Rattle.esm_model.specs.declared.entry.Entry.TheVariants.{Came, Began, Ended, Gave, Tried, Closed, Replayed, Shut}
use Rattle.esm_model.specs.Setting.{Setting}
use Rattle.esm_model.specs.Entries.{holds, came_count, shards_that_came, batcher}
use Rattle.esm_model.specs.Calls.{calls, calls_after, calls_since, is_end_of, has_end_of, last_event}
use Rattle.esm_model.specs.declared.called.Called.{Called}
use Rattle.esm_model.specs.Earned.{LastEnd, IsLogged}
use Rattle.esm_model.specs.Laws.{CallsKept}
use Rattle.esm_model.proofs.Lists.{In, In-append_left, In-append_right, In-here}

-- a call is added behind those that stand
adds_behind : (s : Setting) (sends : List ℕ → List ℕ) (h : List Entry) (k : ℕ) (xs ys : List Called) (e : Entry) → calls_after s sends h k (xs ++ ys) e ≡ xs ++ calls_after s sends h k ys e
adds_behind s sends h k xs ys (Ended lane reply m) =
    elim (cases_Bool (batcher s h lane == k)) [
      | inl same ↦ rw same (append_assoc xs ys (record { name = s.config.function; event = sends (last_event s h lane); reply = reply } ∷ []))
      | inr other ↦ rw other refl
    ]
adds_behind s sends h k xs ys (Came n first count m) = refl
adds_behind s sends h k xs ys (Began lane places closing m) = refl
adds_behind s sends h k xs ys (Gave by n places f line state m) = refl
adds_behind s sends h k xs ys (Tried lane places closing t m) = refl
adds_behind s sends h k xs ys (Closed lane w m) = refl
adds_behind s sends h k xs ys (Replayed n places m) = refl
adds_behind s sends h k xs ys (Shut m) = refl

-- the calls of a history begin those of each history that goes on from it
calls_front : (s : Setting) (sends : List ℕ → List ℕ) (later before : List Entry) (k : ℕ) → calls s sends (later ++ before) k ≡ calls s sends before k ++ calls_since s sends later before k
calls_front s sends [] before k = sym (append-nil (calls s sends before k))
calls_front s sends (e ∷ later) before k =
    ap (λ cs. calls_after s sends (later ++ before) k cs e) (calls_front s sends later before k)
    ∙ adds_behind s sends (later ++ before) k (calls s sends before k) (calls_since s sends later before k) e

either_false : (a b : Bool) → (a || b) ≡ false → (a ≡ false) × (b ≡ false)
either_false true b is = cc
either_false false b is = (refl, is)

-- an entry that ends no call of the batcher adds none
adds_none : (s : Setting) (sends : List ℕ → List ℕ) (h : List Entry) (k : ℕ) (xs : List Called) (e : Entry) → is_end_of s h k e ≡ false → calls_after s sends h k xs e ≡ xs
adds_none s sends h k xs (Ended lane reply m) none = rw none refl
adds_none s sends h k xs (Came n first count m) none = refl
adds_none s sends h k xs (Began lane places closing m) none = refl
adds_none s sends h k xs (Gave by n places f line state m) none = refl
adds_none s sends h k xs (Tried lane places closing t m) none = refl
adds_none s sends h k xs (Closed lane w m) none = refl
adds_none s sends h k xs (Replayed n places m) none = refl
adds_none s sends h k xs (Shut m) none = refl

none_since : (s : Setting) (sends : List ℕ → List ℕ) (later before : List Entry) (k : ℕ) → has_end_of s later before k ≡ false → calls_since s sends later before k ≡ []
none_since s sends [] before k none = refl
none_since s sends (e ∷ later) before k none =
    let parts = either_false (is_end_of s (later ++ before) k e) (has_end_of s later before k) none in
    adds_none s sends (later ++ before) k (calls_since s sends later before k) e parts.0 ∙ none_since s sends later before k parts.1

pub calls_go_on : (s : Setting) (sends : List ℕ → List ℕ) (later before : List Entry) (k : ℕ) → CallsKept s sends later before k
calls_go_on s sends later before k = record {
  kept = calls_front s sends later before k;
  same = λ none. calls_front s sends later before k ∙ ap (λ cs. calls s sends before k ++ cs) (none_since s sends later before k none) ∙ append-nil (calls s sends before k);
}

-- the call of a lane's last end is among them
pub end_logged : (s : Setting) (sends : List ℕ → List ℕ) (h : List Entry) (lane : LaneId) (end : LastEnd s h lane) → IsLogged sends end
end_logged s sends h lane end =
    let k = batcher s end.earlier lane in
    let logged : Called = record { name = s.config.function; event = sends (last_event s end.earlier lane); reply = end.reply } in
    let upto = Ended lane end.reply end.moment ∷ end.earlier in
    let here : calls s sends upto k ≡ calls s sends end.earlier k ++ logged ∷ [] = rw (eq-eqb (batcher s end.earlier lane) (batcher s end.earlier lane) refl) refl in (
      calls s sends end.earlier k,
      calls_since s sends end.since upto k,
      ap (λ g. calls s sends g k) end.ended
          ∙ calls_front s sends end.since upto k
          ∙ ap (λ cs. cs ++ calls_since s sends end.since upto k) here
          ∙ append_assoc (calls s sends end.earlier k) (logged ∷ []) (calls_since s sends end.since upto k),
    )

-- a shard that came stands in the list of those that did
pub came_shard : (h : List Entry) (n : ℕ) → 1 ≤ came_count h n → In (shards_that_came h) n
came_shard [] n came = absurd (omega arith)
came_shard (Came k first count m ∷ h) n came =
    elim (cases_Bool (k == n)) [
      | inl same ↦ there_now (holds (shards_that_came h) k) refl same
      | inr other ↦ (let before : 1 ≤ came_count h n = rw other at came in stays (holds (shards_that_came h) k) (came_shard h n before))
    ]
  where
    stays : (b : Bool) → In (shards_that_came h) n → In (cond b (shards_that_came h) (shards_that_came h ++ k ∷ [])) n
    stays true member = member
    stays false member = In-append_left (shards_that_came h) (k ∷ []) n member

    there_now : (b : Bool) → holds (shards_that_came h) k ≡ b → (k == n) ≡ true → In (cond b (shards_that_came h) (shards_that_came h ++ k ∷ [])) n
    there_now true is same = subst (In (shards_that_came h)) (eqb-true k n same) is
    there_now false is same = In-append_right (shards_that_came h) (k ∷ []) n (In-here k [] n (eqb-true k n same))
came_shard (Began lane places closing m ∷ h) n came = came_shard h n came
came_shard (Ended lane reply m ∷ h) n came = came_shard h n came
came_shard (Gave by k places f line state m ∷ h) n came = came_shard h n came
came_shard (Tried lane places closing t m ∷ h) n came = came_shard h n came
came_shard (Closed lane w m ∷ h) n came = came_shard h n came
came_shard (Replayed k places m ∷ h) n came = came_shard h n came
came_shard (Shut m ∷ h) n came = came_shard h n came

prefix_stays : (n : ℕ) (xs ys : List ℕ) → In xs n → prefix_len (λ k. not (k == n)) (xs ++ ys) ≡ prefix_len (λ k. not (k == n)) xs
prefix_stays n [] ys member = cc
prefix_stays n (x ∷ xs) ys member =
    elim (cases_Bool (x == n)) [
      | inl same ↦ rw same refl
      | inr other ↦ (let rest : In xs n = rw other at member in rw other (ap (λ v. 1 + v) (prefix_stays n xs ys rest)))
    ]

-- the batcher of a lane whose shard came stays the same
pub batcher_stays : (s : Setting) (e : Entry) (h : List Entry) (lane : LaneId) → 1 ≤ came_count h lane.shard → batcher s (e ∷ h) lane ≡ batcher s h lane
batcher_stays s (Came k first count m) h lane came = at_shard (holds (shards_that_came h) k)
  where
    at_shard : (b : Bool) → prefix_len (λ n. not (n == lane.shard)) (cond b (shards_that_came h) (shards_that_came h ++ k ∷ [])) * s.config.factor + lane.lane ≡ batcher s h lane
    at_shard true = refl
    at_shard false = ap (λ x. x * s.config.factor + lane.lane) (prefix_stays lane.shard (shards_that_came h) (k ∷ []) (came_shard h lane.shard came))
batcher_stays s (Began at places closing m) h lane came = refl
batcher_stays s (Ended at reply m) h lane came = refl
batcher_stays s (Gave by k places f line state m) h lane came = refl
batcher_stays s (Tried at places closing t m) h lane came = refl
batcher_stays s (Closed at w m) h lane came = refl
batcher_stays s (Replayed k places m) h lane came = refl
batcher_stays s (Shut m) h lane came = refl
