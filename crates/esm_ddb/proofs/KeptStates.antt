-- Each state that a legal history keeps of a window reads as an object, where those that were found do.
use Rattle.std.proofs.Common.{◌≡◌, ◌∙◌, ℕ, ◌&&◌, ◌==◌, Bool, true, false, cond, List, [], ◌∷◌, ◌++◌, drop, take, codes, refl, sym, ap, subst, Option, Some, None}
use Rattle.std.specs.Prelude.{IfSome, find, is_some, option_map, unwrap_or, ⊤}
use Rattle.esm_model.specs.Calls.{window_call, window_of_call}
use Rattle.esm_model.specs.Entries.{Call, last_call, last_moment}
use Rattle.esm_model.specs.Lane.{same_lane}
use Rattle.esm_model.specs.Owed.{Debt, Success, GiveUp, Try, Close, IsOwed, call_debts, close_debts, debt_entry, debts, end_debts, give_up_debts, new_state, pays, rest_debts, state_in_reply, success_debts}
use Rattle.esm_model.specs.Setting.{Setting}
use Rattle.esm_model.specs.Step.{Legal, MayFollow}
use Rattle.esm_model.specs.Tries.{tries_of, verdict_after}
use Rattle.esm_model.specs.Windows.{has_windows, kept_state, text_for, window_state}
use Rattle.esm_model.specs.declared.entry.Entry.{Entry}
use Rattle.esm_model.specs.declared.entry.Entry.TheVariants.{Came, Began, Ended, Gave, Tried, Closed, Replayed, Shut}
use Rattle.esm_model.specs.declared.entry.Fate.{Fate}
use Rattle.esm_model.specs.declared.entry.Fate.TheVariants.{Succeeded, Filtered, Expired, Exhausted}
use Rattle.esm_model.specs.declared.entry.Reply.{Reply}
use Rattle.esm_model.specs.declared.entry.Reply.TheVariants.{Answered, Garbled, Lost}
use Rattle.esm_model.specs.declared.entry.WindowState.{WindowState}
use Rattle.esm_model.specs.declared.event.WindowCall.{WindowCall}
use Rattle.esm_model.specs.declared.lane.LaneId.{LaneId}
use Rattle.esm_model.specs.declared.setup.FoundState.{FoundState}
use Rattle.esm_model.specs.declared.verdict.Rest.{Rest}
use Rattle.esm_model.specs.declared.verdict.Rest.TheVariants as rest
use Rattle.esm_model.proofs.Debts.{first_debt}
use Rattle.esm_ddb.specs.BatchEvents.{AreStates, AreStatesKept, AreStatesWhereNone}
use Rattle.esm_ddb.specs.RunEvent.{HasState, IsState}
use Rattle.esm_ddb.proofs.AnsweredStates.{answered_reads, empty_state, in_event}

abbrev Reads : WindowState → Type 0
Reads state = IsState state.text

abbrev DebtReads : Debt → Type 0
DebtReads (Success places state) = IfSome state Reads
DebtReads (GiveUp places) = ⊤
DebtReads (Try places closing tries) = ⊤
DebtReads (Close window) = ⊤

abbrev AllRead : List Debt → Type 0
AllRead [] = ⊤
AllRead (d ∷ ds) = DebtReads d × AllRead ds

abbrev EntryReads : Entry → Type 0
EntryReads (Gave by shard places fate line state moment) = IfSome state Reads
EntryReads _ = ⊤

pub record KeepStates (s : Setting) (h : List Entry) : Type 0 where
  pub states : (n w : ℕ) (text : List ℕ) → kept_state s h n w ≡ Some text → IsState text
  pub owes : (lane : LaneId) → AllRead (debts s h lane)

-- ---- what a call owes

all_append : (ds es : List Debt) → AllRead ds → AllRead es → AllRead (ds ++ es)
all_append [] es first second = second
all_append (d ∷ ds) es first second = (first.0, all_append ds es first.1 second)

all_drop : (ds : List Debt) → AllRead ds → AllRead (drop 1 ds)
all_drop [] h = tt
all_drop (d ∷ ds) h = h.1

all_either : (b : Bool) (ds es : List Debt) → AllRead ds → AllRead es → AllRead (cond b ds es)
all_either true ds es first second = first
all_either false ds es first second = second

paid : (b : Bool) (ds : List Debt) → AllRead ds → AllRead (cond b (drop 1 ds) ds)
paid b ds h = all_either b (drop 1 ds) ds (all_drop ds h) h

reply_reads : (reply : Reply) → IsState (state_in_reply reply)
reply_reads (Answered status error body) = answered_reads body
reply_reads (Garbled bytes) = empty_state
reply_reads Lost = empty_state

new_by : (b : Bool) (state : WindowState) → Reads state → IfSome (cond b (Some state) None) Reads
new_by true state h = h
new_by false state h = tt

success_read : (xs : List ℕ) (state : Option WindowState) → IfSome state Reads → AllRead (success_debts xs state)
success_read [] state h = tt
success_read (x ∷ xs) state h = (h, tt)

give_up_read : (xs : List ℕ) → AllRead (give_up_debts xs)
give_up_read [] = tt
give_up_read (x ∷ xs) = (tt, tt)

close_read : (closing : Option ℕ) → AllRead (close_debts closing)
close_read None = tt
close_read (Some window) = (tt, tt)

rest_read : (r : Rest) (xs : List ℕ) (closing : Option ℕ) (t : ℕ) → AllRead (rest_debts r xs closing t)
rest_read rest.Nothing xs closing t = close_read closing
rest_read rest.Again xs closing t = tt
rest_read (rest.Split k) xs closing t = tt
rest_read rest.Counted xs closing t = (tt, tt)
rest_read rest.Exhausted xs closing t = all_append (give_up_debts xs) (close_debts closing) (give_up_read xs) (close_read closing)

call_reads : (s : Setting) (h : List Entry) (lane : LaneId) (o : Option Call) (reply : Reply) → AllRead (call_debts s h lane o reply)
call_reads s h lane None reply = tt
call_reads s h lane (Some call) reply =
    let v = verdict_after s h lane reply in
    all_append (success_debts (take v.succeeded call.places) (new_state s lane.shard call reply)) (rest_debts v.rest (drop v.succeeded call.places) call.closing (tries_of s h lane.shard call))
    (success_read (take v.succeeded call.places) (new_state s lane.shard call reply)
    (new_by (has_windows s.config) (record { window = window_of_call s lane.shard call.places call.closing; text = state_in_reply reply }) (reply_reads reply)))
    (rest_read v.rest (drop v.succeeded call.places) call.closing (tries_of s h lane.shard call))

-- ---- what an entry leaves to a window

debt_reads : (s : Setting) (h : List Entry) (lane : LaneId) (m : ℕ) (d : Debt) → DebtReads d → EntryReads (debt_entry s h lane m d)
debt_reads s h lane m (Success places state) reads = reads
debt_reads s h lane m (GiveUp places) reads = tt
debt_reads s h lane m (Try places closing t) reads = tt
debt_reads s h lane m (Close window) reads = tt

owed_reads : (s : Setting) (h : List Entry) (lane : LaneId) (e : Entry) → KeepStates s h → IsOwed s h lane e → EntryReads e
owed_reads s h lane e keep owed =
    let is = first_debt s h lane e owed in
    subst EntryReads is.brings (debt_reads s h lane (last_moment h) is.first (subst AllRead is.parts (keep.owes lane)).0)

no_state : (state : Option WindowState) → state ≡ None → IfSome state Reads
no_state None is = tt
no_state (Some state) is = cc

gave_reads : (s : Setting) (h : List Entry) (by : Option LaneId) (n : ℕ) (places : List ℕ) (f : Fate) (line : Option (List ℕ)) (state : Option WindowState) (m : ℕ) → KeepStates s h
    → MayFollow s h (Gave by n places f line state m) → IfSome state Reads
gave_reads s h None n places Filtered line state m keep may = no_state state may.no_state
gave_reads s h None n places Succeeded line state m keep may = absurd may
gave_reads s h None n places Expired line state m keep may = absurd may
gave_reads s h None n places Exhausted line state m keep may = absurd may
gave_reads s h (Some at) n places Filtered line state m keep may = absurd may
gave_reads s h (Some at) n places Succeeded line state m keep may = owed_reads s h at (Gave (Some at) n places Succeeded line state m) keep may
gave_reads s h (Some at) n places Exhausted line state m keep may = owed_reads s h at (Gave (Some at) n places Exhausted line state m) keep may
gave_reads s h (Some at) n places Expired line state m keep may = no_state state may.no_state

either : (b : Bool) (x y : Option (List ℕ)) (text : List ℕ) → (x ≡ Some text → IsState text) → (y ≡ Some text → IsState text) → cond b x y ≡ Some text → IsState text
either true x y text first second is = first is
either false x y text first second is = second is

state_reads : (state : WindowState) (text : List ℕ) → Reads state → Some state.text ≡ Some text → IsState text
state_reads state text reads e = let same : state.text ≡ text = cc in subst IsState same reads

text_reads : (w : ℕ) (before : Option (List ℕ)) (state : Option WindowState) (text : List ℕ) → IfSome state Reads → (before ≡ Some text → IsState text) → text_for w before state ≡ Some text → IsState text
text_reads w before None text reads was is = was is
text_reads w before (Some state) text reads was is = either (state.window == w) (Some state.text) before text (state_reads state text reads) was is

-- ---- each step keeps it

step : (s : Setting) (h : List Entry) (e : Entry) → MayFollow s h e → KeepStates s h → KeepStates s (e ∷ h)
step s h (Came n first count m) may keep = record { states = keep.states; owes = λ lane. paid (pays lane (debts s h lane) (Came n first count m)) (debts s h lane) (keep.owes lane) }
step s h (Began at places closing m) may keep = record {
  states = keep.states;
  owes = λ lane. all_either (same_lane at lane) [] (debts s h lane) tt (keep.owes lane);
}
step s h (Ended at reply m) may keep = record {
  states = keep.states;
  owes = λ lane. all_either (same_lane at lane) (end_debts s h lane reply) (debts s h lane) (call_reads s h lane (last_call h lane) reply) (keep.owes lane);
}
step s h (Gave by shard places f line state m) may keep = record {
  states = λ n w text is.
      either (shard == n) (text_for w (kept_state s h n w) state) (kept_state s h n w) text
      (text_reads w (kept_state s h n w) state text (gave_reads s h by shard places f line state m keep may) (keep.states n w text)) (keep.states n w text) is;
  owes = λ lane. paid (pays lane (debts s h lane) (Gave by shard places f line state m)) (debts s h lane) (keep.owes lane);
}
step s h (Tried at places closing t m) may keep = record {
  states = keep.states;
  owes = λ lane. paid (pays lane (debts s h lane) (Tried at places closing t m)) (debts s h lane) (keep.owes lane);
}
step s h (Closed at window m) may keep = record {
  states = λ n w text is. either ((at.shard == n) && (window == w)) None (kept_state s h n w) text (λ none. cc) (keep.states n w text) is;
  owes = λ lane. paid (pays lane (debts s h lane) (Closed at window m)) (debts s h lane) (keep.owes lane);
}
step s h (Replayed shard places m) may keep = record { states = keep.states; owes = λ lane. paid (pays lane (debts s h lane) (Replayed shard places m)) (debts s h lane) (keep.owes lane) }
step s h (Shut m) may keep = record { states = keep.states; owes = λ lane. paid (pays lane (debts s h lane) (Shut m)) (debts s h lane) (keep.owes lane) }

pub states_kept : (s : Setting) → AreStates s → (h : List Entry) → Legal s h → KeepStates s h
states_kept s found [] legal = record { states = found; owes = λ lane. tt }
states_kept s found (e ∷ h) legal = step s h e legal.1.1 (states_kept s found h legal.0)

pub kept : AreStatesKept
kept s found h legal n w text is = (states_kept s found h legal).states n w text is

pub none_found : AreStatesWhereNone
none_found s none n w text is =
    let never : None ≡ Some text = sym (ap (λ (fs : List FoundState). option_map (λ (f : FoundState). f.text) (find (λ (f : FoundState). (f.shard == n) && (f.window == w)) fs)) none) ∙ is in
    cc

-- ---- what an event says of its window

or_empty : (o : Option (List ℕ)) → ((text : List ℕ) → o ≡ Some text → IsState text) → IsState (unwrap_or o (codes "{}"))
or_empty None each = empty_state
or_empty (Some text) each = each text refl

has_by : (b : Bool) (w : WindowCall) → (b ≡ true → IsState w.state.text) → HasState (cond b (Some w) None)
has_by true w h = in_event w.state.text (h refl)
has_by false w h = tt

pub window_has_state : (s : Setting) (h : List Entry) → (has_windows s.config ≡ true → KeepStates s h) → (n : ℕ) (places : List ℕ) (closing : Option ℕ) → HasState (window_call s h n places closing)
window_has_state s h keep n places closing =
    let w = window_of_call s n places closing in
    has_by (has_windows s.config)
    (record { shard = n; state = record { window = w; text = window_state s h n w }; closing = is_some closing })
    (λ windows. or_empty (kept_state s h n w) (λ text is. (keep windows).states n w text is))
