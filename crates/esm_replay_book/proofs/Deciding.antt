-- What each call decides, in one form: which records come, which entries are added, and what then is owed no more.
use Rattle.std.proofs.Common.{◌≡◌, ℕ, ◌+◌, ◌<◌, ◌≤◌, Bool, true, false, cond, List, [], ◌∷◌, ◌++◌, length, take, reverse, refl, sym, ap, ◌∙◌, subst, arith, append-nil, append_assoc, length-append, Option, Some, None}
use Rattle.std.specs.Prelude.{nat_le}
use Rattle.std.specs.Option.{option_or}
use Rattle.esm_model.specs.Records.{Record}
use Rattle.esm_model.specs.declared.lane.LaneId.{LaneId}
use Rattle.esm_model.specs.declared.book.Change.{Change}
use Rattle.esm_model.specs.declared.book.Job.{Job}
use Rattle.esm_model.specs.declared.entry.Reply.{Reply}
use Rattle.esm_model.specs.declared.entry.Entry.{Entry}
use Rattle.esm_model.specs.declared.entry.Entry.TheVariants.{Ended, Replayed}
use Rattle.esm_model.specs.Entries.{calls_begun}
use Rattle.esm_journal_state.specs.SaidLists.{SaidLists}
use Rattle.esm_replay_model.specs.ReplaySetting.{ReplaySetting}
use Rattle.esm_replay_model.specs.Pieces.{ReplayPiece, next_call, succeeded_of}
use Rattle.esm_replay_model.specs.ReplayRun.{call_out, owed_replay, pieces_left, IsReplay}
use Rattle.esm_replay_core.specs.declared.decisions.ReplayEntry.{ReplayEntry}
use Rattle.esm_replay_core.specs.declared.decisions.ReplayCall.{ReplayCall}
use Rattle.esm_replay_core.specs.declared.decisions.ReplayCall.TheVariants as call
use Rattle.esm_replay_core.specs.declared.decisions.ReplayAnswer.{ReplayAnswer}
use Rattle.esm_replay_core.specs.declared.decisions.ReplayAnswer.TheVariants as answer
use Rattle.esm_replay_core.specs.declared.decisions.ReplayNext.{ReplayNext}
use Rattle.esm_replay_core.specs.declared.decisions.ReplayNext.TheVariants as next
use Rattle.esm_replay_core.specs.View.{ReplayView, setting_of, moment_for}
use Rattle.esm_replay_core.specs.Deciding.{job_of, next_by, next_of, next_entries, replayed_entries}
use Rattle.esm_replay.specs.Coming.{change_at, first_change}
use Rattle.esm_replay_core.specs.Told.{came_entries, added_entries, MayAsk, Adds, Decides, Refuses}
use Rattle.esm_replay_book.specs.Books.{payloads_in}
use Rattle.esm_replay_book.specs.Calls.{RunsCall}
use Rattle.esm_replay_book.specs.Carried.{records_after, entries_by, IsAnswer, IsDone}
use Rattle.esm_replay_book.specs.Keeping.{OwesReplay}

-- the records that come with a call
abbrev pub coming_by : ReplayCall → List Record
coming_by (call.Came items) = items.items
coming_by _ = []

-- after the entries that it adds nothing is owed of what succeeded
abbrev pub IsPaidAfter : ReplayView → ReplayCall → Type 0
IsPaidAfter v asked = (owed_replay (setting_of v) (reverse (entries_by v asked) ++ v.past)).places ≡ []

pub record HasDecided (v : ReplayView) (asked : ReplayCall) (given : ReplayAnswer) (entries : List ReplayEntry) : Type 0 where
  pub entries_are : entries ≡ came_entries (coming_by asked) ++ added_entries (setting_of v) (entries_by v asked)
  pub answer_is : IsAnswer v asked given
  pub no_change : (change : Change) → Refuses v asked change → ⊥
  pub unchanged : first_change v.opened.said v.records (coming_by asked) ≡ None

-- the entries of a list alone
came_alone : (s : ReplaySetting) (rs : List Record) (entries : List ReplayEntry) → entries ≡ came_entries rs → entries ≡ came_entries rs ++ added_entries s []
came_alone s rs entries is = is ∙ sym (append-nil (came_entries rs))

pub decided_so : (v : ReplayView) (asked : ReplayCall) (given : ReplayAnswer) (entries : List ReplayEntry) → Decides v asked given entries → HasDecided v asked given entries
decided_so v (call.Came items) answer.Taken entries d = record {
  entries_are = came_alone (setting_of v) items.items entries d.1;
  answer_is = tt;
  no_change = λ change refuses. (let none = d.0 in absurd (cc));
  unchanged = d.0;
}
decided_so v (call.Came items) (answer.Next n) entries d = absurd d
decided_so v (call.Came items) (answer.Replayed count) entries d = absurd d
decided_so v (call.Next moment) (answer.Next n) entries d =
    let s = setting_of v in
    let m = moment_for v.past moment in
    let adds : Adds v (next_entries (next_of s v.past) m) entries = subst (λ (x : ReplayNext). Adds v (next_entries x m) entries) d.0 d.1 in
    record { entries_are = adds.entries_are; answer_is = d.0; no_change = λ change refuses. refuses; unchanged = refl }
decided_so v (call.Next moment) answer.Taken entries d = absurd d
decided_so v (call.Next moment) (answer.Replayed count) entries d = absurd d
decided_so v (call.Done job reply moment) (answer.Replayed count) entries d = record { entries_are = d.1.entries_are; answer_is = d.0; no_change = λ change refuses. refuses; unchanged = refl }
decided_so v (call.Done job reply moment) answer.Taken entries d = absurd d
decided_so v (call.Done job reply moment) (answer.Next n) entries d = absurd d

-- records of which none was kept otherwise, behind such

or_regroup : (a b c : Option Change) → option_or a (option_or b c) ≡ option_or (option_or a b) c
or_regroup None b c = refl
or_regroup (Some change) b c = refl

pub change-append : (told : SaidLists) (before xs ys : List Record) → first_change told before (xs ++ ys) ≡ option_or (first_change told before xs) (first_change told (before ++ xs) ys)
change-append told before [] ys = ap (λ (rs : List Record). first_change told rs ys) (sym (append-nil before))
change-append told before (r ∷ xs) ys =
    let here = change_at told before r in
    let later = first_change told (before ++ r ∷ []) xs in
    ap (option_or here) (change-append told (before ++ r ∷ []) xs ys)
    ∙ (or_regroup here later (first_change told ((before ++ r ∷ []) ++ xs) ys)
    ∙ ap (λ (rs : List Record). option_or (option_or here later) (first_change told rs ys)) (append_assoc before (r ∷ []) xs))

pub unchanged_both : (told : SaidLists) (xs ys : List Record) → first_change told [] xs ≡ None → first_change told xs ys ≡ None → first_change told [] (xs ++ ys) ≡ None
unchanged_both told xs ys one other =
    change-append told [] xs ys ∙ (ap (λ (o : Option Change). option_or o (first_change told xs ys)) one ∙ other)

-- the records that came, after it
pub records_after_is : (v : ReplayView) (asked : ReplayCall) → v.records ++ coming_by asked ≡ records_after v asked
records_after_is v (call.Came items) = refl
records_after_is v (call.Next moment) = append-nil v.records
records_after_is v (call.Done job reply moment) = append-nil v.records

-- what succeeded

paid_next : (s : ReplaySetting) (h : List Entry) (n : ReplayNext) (m : ℕ) → (owed_replay s h).places ≡ [] → (owed_replay s (reverse (next_entries n m) ++ h)).places ≡ []
paid_next s h next.Spent m paid = paid
paid_next s h next.Finished m paid = paid
paid_next s h (next.Call job) m paid = refl

paid_ended : (s : ReplaySetting) (h : List Entry) (lane : LaneId) (reply : Reply) (m : ℕ) (succeeded : List ℕ) → (succeeded_of s (call_out h) reply).places ≡ succeeded
    → (owed_replay s (reverse (Ended lane reply m ∷ replayed_entries (succeeded_of s (call_out h) reply).shard succeeded m) ++ h)).places ≡ []
paid_ended s h lane reply m [] is = is
paid_ended s h lane reply m (i ∷ places) is = refl

-- where nothing was owed before
pub paid_after : (v : ReplayView) (asked : ReplayCall) → MayAsk v asked → (owed_replay (setting_of v) v.past).places ≡ [] → IsPaidAfter v asked
paid_after v (call.Came items) may paid = paid
paid_after v (call.Next moment) may paid = paid_next (setting_of v) v.past (next_of (setting_of v) v.past) (moment_for v.past moment) paid
paid_after v (call.Done job reply moment) may paid =
    paid_ended (setting_of v) v.past job.lane reply (moment_for v.past moment) (succeeded_of (setting_of v) (call_out v.past) reply).places refl

-- only the end of a call is written

next_unwritten : (s : ReplaySetting) (n : ReplayNext) (m : ℕ) → payloads_in s (next_entries n m) ≡ []
next_unwritten s next.Spent m = refl
next_unwritten s next.Finished m = refl
next_unwritten s (next.Call job) m = refl

-- nothing is written of a call that is none's end
pub unwritten : (v : ReplayView) (s : ReplaySetting) (asked : ReplayCall) → (IsDone asked → ⊥) → payloads_in s (entries_by v asked) ≡ []
unwritten v s (call.Came items) other = refl
unwritten v s (call.Next moment) other = next_unwritten s (next_of (setting_of v) v.past) (moment_for v.past moment)
unwritten v s (call.Done job reply moment) other = absurd (other tt)

-- the end of a call

short_replayed : (n : ℕ) (places : List ℕ) (m : ℕ) → length (replayed_entries n places m) ≤ 1
short_replayed n [] m = omega arith
short_replayed n (i ∷ places) m = omega arith

-- where a disk failed in it, its `Ended` was added
pub ended_front : (s : ReplaySetting) (n m : ℕ) (places : List ℕ) (lane : LaneId) (reply : Reply) (front rest : List Entry) → front ++ rest ≡ Ended lane reply m ∷ replayed_entries n places m
    → 0 < length rest → 0 < length (payloads_in s (take 1 rest)) → front ≡ Ended lane reply m ∷ []
ended_front s n m places lane reply [] rest is left writing =
    let none : payloads_in s (take 1 rest) ≡ [] = ap (λ (es : List Entry). payloads_in s (take 1 es)) is in
    let short : length (payloads_in s (take 1 rest)) ≡ 0 = ap (λ (texts : List (List ℕ)). length texts) none in
    absurd (omega (arith, writing, short))
ended_front s n m places lane reply (e ∷ []) rest is left writing =
    let head : e ≡ Ended lane reply m = cc in
    ap (λ (x : Entry). x ∷ []) head
ended_front s n m places lane reply (e ∷ f ∷ front) rest is left writing =
    let tail : (f ∷ front) ++ rest ≡ replayed_entries n places m = cc in
    let long : length ((f ∷ front) ++ rest) ≡ length (replayed_entries n places m) = ap (λ (es : List Entry). length es) tail in
    let short = short_replayed n places m in
    let both : length ((f ∷ front) ++ rest) ≡ length (f ∷ front) + length rest = length-append (f ∷ front) rest in
    absurd (omega (arith, long, both, short, left))

-- and what follows it is owed: the `Replayed` of what succeeded, where anything did
front_end : (e : Entry) (front rest es : List Entry) → front ≡ e ∷ [] → front ++ rest ≡ e ∷ es → rest ≡ es
front_end e front rest es is split = (let all : e ∷ rest ≡ e ∷ es = ap (λ (xs : List Entry). xs ++ rest) (sym is) ∙ split in cc)

replayed_owed : (n : ℕ) (places : List ℕ) (m : ℕ) (rest : List Entry) → rest ≡ replayed_entries n places m → 0 < length rest → (1 ≤ length places) × (rest ≡ Replayed n places m ∷ [])
replayed_owed n [] m rest is left = (let short : length rest ≡ 0 = ap (λ (es : List Entry). length es) is in absurd (omega (arith, short, left)))
replayed_owed n (i ∷ places) m rest is left = (omega arith, is)

pub ended_owes : (s t : ReplaySetting) (m : ℕ) (lane : LaneId) (reply : Reply) (front rest h : List Entry)
    → front ++ rest ≡ Ended lane reply m ∷ replayed_entries (succeeded_of s (call_out h) reply).shard (succeeded_of s (call_out h) reply).places m
    → 0 < length rest → 0 < length (payloads_in t (take 1 rest)) → OwesReplay s (reverse front ++ h) rest
ended_owes s t m lane reply front rest h is left writing =
    let call = succeeded_of s (call_out h) reply in
    let front_is : front ≡ Ended lane reply m ∷ [] = ended_front t call.shard m call.places lane reply front rest is left writing in
    let owed = replayed_owed call.shard call.places m rest (front_end (Ended lane reply m) front rest (replayed_entries call.shard call.places m) front_is is) left in
    let ended : OwesReplay s (Ended lane reply m ∷ h) rest = record { some = owed.0; is = owed.1 } in
    subst (λ (es : List Entry). OwesReplay s (reverse es ++ h) rest) (sym front_is) ended

-- so no call is out
pub ended_rests : (s : ReplaySetting) (n m : ℕ) (places : List ℕ) (lane : LaneId) (reply : Reply) (front rest h : List Entry) → front ++ rest ≡ Ended lane reply m ∷ replayed_entries n places m
    → 0 < length rest → 0 < length (payloads_in s (take 1 rest)) → (call_out (reverse front ++ h)).places ≡ []
ended_rests s n m places lane reply front rest h is left writing =
    ap (λ (es : List Entry). (call_out (reverse es ++ h)).places) (ended_front s n m places lane reply front rest is left writing)

-- a call that is answered is out

abbrev IsJobFor : ReplaySetting → ReplayNext → Type 0
IsJobFor s (next.Call job) = (p : ReplayPiece) × (job ≡ job_of s p)
IsJobFor s _ = Unit {0}

either_of : (s : ReplaySetting) (b : Bool) (one other : ReplayNext) → IsJobFor s one → IsJobFor s other → IsJobFor s (cond b one other)
either_of s true one other i j = i
either_of s false one other i j = j

job_by : (s : ReplaySetting) (h : List Entry) (ps : List ReplayPiece) → IsJobFor s (next_by s h ps)
job_by s h [] = tt
job_by s h (p ∷ others) =
    either_of s (nat_le s.base.calls (calls_begun h)) next.Spent (next.Call (job_of s (next_call s (p ∷ others)))) tt (next_call s (p ∷ others), refl)

out_job : (s : ReplaySetting) (h : List Entry) (p : ReplayPiece) (m : ℕ) → 1 ≤ length p.places → RunsCall s (reverse (next_entries (next.Call (job_of s p)) m) ++ h) (next.Call (job_of s p))
out_job s h p m some = record { out = record { lane = refl; places = refl; some = some }; event = refl }

runs_job : (s : ReplaySetting) (h : List Entry) (n : ReplayNext) (m : ℕ) → IsJobFor s n → IsReplay s (reverse (next_entries n m) ++ h) → RunsCall s (reverse (next_entries n m) ++ h) n
runs_job s h next.Spent m own run = tt
runs_job s h next.Finished m own run = tt
runs_job s h (next.Call job) m own run =
    let some : 1 ≤ length own.0.places = subst (λ (j : Job). 1 ≤ length j.places) own.1 run.1.1.some in
    subst (λ (j : Job). RunsCall s (reverse (next_entries (next.Call j) m) ++ h) (next.Call j)) (sym own.1) (out_job s h own.0 m some)

pub runs_call : (s : ReplaySetting) (h now : List Entry) (m : ℕ) (n : ReplayNext) → n ≡ next_of s h → now ≡ reverse (next_entries (next_of s h) m) ++ h → IsReplay s now → RunsCall s now n
runs_call s h now m n given is run =
    let past : reverse (next_entries (next_of s h) m) ++ h ≡ now = sym is in
    subst (RunsCall s now) (sym given)
    (subst (λ (es : List Entry). RunsCall s es (next_of s h)) past
    (runs_job s h (next_of s h) m (job_by s h (pieces_left s h)) (subst (IsReplay s) is run)))
