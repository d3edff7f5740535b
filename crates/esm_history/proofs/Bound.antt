-- In a legal history each final call has a slot of its own, and so the calls are bounded. Only this crate's proofs cite this.
use Rattle.std.proofs.Common.{◌≡◌, ℕ, suc, ◌+◌, ◌*◌, ◌<◌, ◌≤◌, Bool, true, false, ◌&&◌, List, [], ◌∷◌, ◌++◌, length, map, refl, sym, ap, ◌∙◌, subst, inl, inr, arith, Option, Some, None, length-append}
use Rattle.std.specs.Prelude.{◌==◌, nat_lt, find, option_map, is_some, unwrap_or, if◌then◌else◌}
use Rattle.std.specs.List.{list_any, flat_map}
use Rattle.std.proofs.lemmas.Bool.{cases_Bool, and_parts, or_cases, eqb-true}
use Rattle.std.proofs.lemmas.Option.{same_Some}
use Rattle.esm_model.specs.declared.limits.TheConstants.{MAX_RETRIES}
use Rattle.esm_model.specs.declared.lane.LaneId.{LaneId}
use Rattle.esm_model.specs.declared.entry.Reply.{Reply}
use Rattle.esm_model.specs.declared.entry.Entry.{Entry}
use Rattle.esm_model.specs.declared.entry.Entry.TheVariants.{Came, Began, Ended, Gave, Tried, Closed, Replayed, Shut}
use Rattle.esm_model.specs.declared.setup.FoundState.{FoundState}
use Rattle.esm_model.specs.declared.verdict.Reading.{Reading}
use Rattle.esm_model.specs.declared.verdict.Reading.TheVariants.{Whole, NotRun, Failed, UpTo}
use Rattle.esm_model.specs.declared.config.Config.{Config}
use Rattle.esm_model.specs.Valid.{HasStreamFields}
use Rattle.esm_model.specs.Setting.{Setting, sequences_at}
use Rattle.esm_model.specs.Entries.{Call, calls_begun, came_count, holds, is_running, last_call, shards_that_came}
use Rattle.esm_model.specs.Fates.{came_places}
use Rattle.esm_model.specs.Reading.{reading}
use Rattle.esm_model.specs.Ruling.{ruling, after_try}
use Rattle.esm_model.specs.Tries.{window_tries}
use Rattle.esm_model.specs.Owed.{debts, pays}
use Rattle.esm_model.specs.Windows.{has_windows, window_of}
use Rattle.esm_model.specs.Step.{Legal}
use Rattle.esm_model.specs.CallBound.{Window, same_window, distinct, windows_that_came, found_windows, window_count, is_not_run, was_not_run, not_run_count, record_count, call_bound}
use Rattle.esm_model.proofs.Lists.{In, In-here, In-cases, In-append_left, In-append_right, below-In}
use Rattle.esm_history.specs.Completeness.{IsFinite, batch_calls, batch_calls_not_run, batch_was_not_run, IsWithinBound}
use Rattle.esm_history.proofs.Finite.{Has, Has-left, Has-right, no_longer, removed, removed-length}
use Rattle.esm_history.proofs.Spent.{Slot, slot, is_slot, is_slot-refl}
use Rattle.esm_history.proofs.Readings.{IsOfFinal, reading_final}
use Rattle.esm_history.proofs.Windows.{IsWindow, good_calls}
use Rattle.esm_history.proofs.Finals.{final_outcome, final_after_end, final_spent, FinalCharged, closes_less, stands_gave, stands_closed}
use Rattle.esm_history.proofs.FinalSteps.{final_quiet, final_begins_batch, final_begins}
use Rattle.esm_history.proofs.FinalEnds.{final_still, final_ends}
use Rattle.esm_history.proofs.Charges.{more_if, few_retries, slots_at, length_at, has_at, batches_bounded}

-- each final call has its slot

call_is : (s : Setting) (h : List Entry) (at : LaneId) (call : Call) (w : ℕ) → Legal s h → last_call h at ≡ Some call → call.closing ≡ Some w → last_call h at ≡ Some (record { places = []; closing = Some w; moment = call.moment })
call_is s h at call w legal last closing =
    last
    ∙ ap (λ (c : Option ℕ). Some (record { places = call.places; closing = c; moment = call.moment })) closing
    ∙ ap (λ (xs : List ℕ). Some (record { places = xs; closing = Some w; moment = call.moment })) ((good_calls s h legal at call last).empty w closing)

ends : (s : Setting) (r : ℕ) (h : List Entry) (at : LaneId) (reply : Reply) (m : ℕ) (o : Option Call) → HasStreamFields s.config → s.config.retries ≡ Some r → r ≤ MAX_RETRIES → Legal s (Ended at reply m ∷ h) → last_call h at ≡ o → FinalCharged s r h → FinalCharged s r (Ended at reply m ∷ h)
ends s r h at reply m None fields finite within legal last was =
    final_still s r h at reply m legal (ap (λ o. final_after_end s r h at.shard o reply (final_spent s r h)) last) (λ w runs. (let clash : None ≡ Some runs.call = sym last ∙ runs.last in cc)) was
ends s r h at reply m (Some call) fields finite within legal last was = by_closing call.closing refl
  where
    by_closing : (c : Option ℕ) → call.closing ≡ c → FinalCharged s r (Ended at reply m ∷ h)
    by_closing (Some w) is = final_ends s r h at reply m w call.moment fields finite within legal (call_is s h at call w legal.0 last is) was
    by_closing None is =
        final_still s r h at reply m legal
        (ap (λ o. final_after_end s r h at.shard o reply (final_spent s r h)) (last ∙ ap (λ (c : Option ℕ). Some (record { places = call.places; closing = c; moment = call.moment })) is))
        (λ w runs. (
        let same : call ≡ runs.call = same_Some call runs.call (sym last ∙ runs.last) in
        let clash : None ≡ Some w = sym is ∙ ap (λ (c : Call). c.closing) same ∙ runs.of_window in
        cc))
        was

final_charged : (s : Setting) (r : ℕ) (h : List Entry) → HasStreamFields s.config → s.config.retries ≡ Some r → r ≤ MAX_RETRIES → Legal s h → FinalCharged s r h
final_charged s r [] fields finite within legal = record { apart = tt; meant = λ x has. absurd has; running = λ lane w runs. (let clash = runs.runs in cc); owing = λ lane w member. cc }
final_charged s r (Came n first count m ∷ h) fields finite within legal = final_quiet s r h (Came n first count m) legal refl (λ lane. refl) (λ lane. refl) (λ lane w runs has stands. stands) (λ lane w member. member) (final_charged s r h fields finite within legal.0)
final_charged s r (Began at places None m ∷ h) fields finite within legal = final_begins_batch s r h at places m legal (final_charged s r h fields finite within legal.0)
final_charged s r (Began at places (Some w) m ∷ h) fields finite within legal = final_begins s r h at places w m fields legal (final_charged s r h fields finite within legal.0)
final_charged s r (Ended at reply m ∷ h) fields finite within legal = ends s r h at reply m (last_call h at) fields finite within legal refl (final_charged s r h fields finite within legal.0)
final_charged s r (Gave by n places f line state m ∷ h) fields finite within legal =
    final_quiet s r h (Gave by n places f line state m) legal refl (λ lane. refl) (λ lane. refl) (λ lane w runs has stands. stands_gave s h n state lane.shard w stands)
    (λ lane w member. closes_less (pays lane (debts s h lane) (Gave by n places f line state m)) (debts s h lane) w member) (final_charged s r h fields finite within legal.0)
final_charged s r (Tried at places c t m ∷ h) fields finite within legal =
    final_quiet s r h (Tried at places c t m) legal refl (λ lane. refl) (λ lane. refl) (λ lane w runs has stands. stands)
    (λ lane w member. closes_less (pays lane (debts s h lane) (Tried at places c t m)) (debts s h lane) w member) (final_charged s r h fields finite within legal.0)
final_charged s r (Closed at v m ∷ h) fields finite within legal =
    final_quiet s r h (Closed at v m) legal refl (λ lane. refl) (λ lane. refl) (λ lane w runs has stands. stands_closed s r h at v m lane w fields legal runs has stands)
    (λ lane w member. closes_less (pays lane (debts s h lane) (Closed at v m)) (debts s h lane) w member) (final_charged s r h fields finite within legal.0)
final_charged s r (Replayed n places m ∷ h) fields finite within legal = absurd legal.1.1
final_charged s r (Shut m ∷ h) fields finite within legal = final_quiet s r h (Shut m) legal refl (λ lane. refl) (λ lane. refl) (λ lane w runs has stands. stands) (λ lane w member. member) (final_charged s r h fields finite within legal.0)

-- a final call that was run spends one slot, and one that was not spends none

try_spends : (o : Option ℕ) (r n w t : ℕ) → length (final_outcome r n w t (after_try o t)) ≡ 1
try_spends None r n w t = refl
try_spends (Some limit) r n w t = elim (cases_Bool (nat_lt limit (t + 1))) [ inl over ↦ rw over refl | inr within ↦ rw within refl ]

end_spends : (c : Config) (r n w t : ℕ) (x : Reading) → IsOfFinal x → length (final_outcome r n w t (ruling c 0 t x).rest) + (if is_not_run x then 1 else 0) ≡ 1
end_spends c r n w t Whole is = refl
end_spends c r n w t NotRun is = refl
end_spends c r n w t (UpTo p) is = absurd is
end_spends c r n w t Failed is =
    elim (cases_Bool (c.bisect && nat_lt 1 0)) [
      | inl split ↦ (let clash : nat_lt 1 0 ≡ true = (and_parts c.bisect (nat_lt 1 0) split).1 in cc)
      | inr whole ↦ rw whole (let one : length (final_outcome r n w t (after_try c.retries t)) ≡ 1 = try_spends c.retries r n w t in omega (arith, one))
    ]

-- the replies to final calls that say so
final_was_not_run : Setting → ℕ → Option Call → Reply → Bool
final_was_not_run s n None reply = false
final_was_not_run s n (Some call) reply = if is_some call.closing then is_not_run (reading s.config (sequences_at s n call.places) true reply) else false

final_not_run : Setting → List Entry → ℕ
final_not_run s [] = 0
final_not_run s (Ended at reply m ∷ h) = if final_was_not_run s at.shard (last_call h at) reply then suc (final_not_run s h) else final_not_run s h
final_not_run s (Came n first count m ∷ h) = final_not_run s h
final_not_run s (Began at places c m ∷ h) = final_not_run s h
final_not_run s (Gave by n places f line state m ∷ h) = final_not_run s h
final_not_run s (Tried at places c t m ∷ h) = final_not_run s h
final_not_run s (Closed at w m ∷ h) = final_not_run s h
final_not_run s (Replayed n places m ∷ h) = final_not_run s h
final_not_run s (Shut m ∷ h) = final_not_run s h

not_run_parts : (s : Setting) (n : ℕ) (o : Option Call) (reply : Reply) (all batch final : ℕ) → all ≡ batch + final
    → (if was_not_run s n o reply then suc all else all) ≡ (if batch_was_not_run s n o reply then suc batch else batch) + (if final_was_not_run s n o reply then suc final else final)
unfolding final_was_not_run
not_run_parts s n None reply all batch final is = is
not_run_parts s n (Some call) reply all batch final is = by_closing call.closing refl
  where
    one_more : (b : Bool) → (if b then suc all else all) ≡ (if b then suc batch else batch) + final
    one_more true = omega (arith, is)
    one_more false = is

    other_more : (b : Bool) → (if b then suc all else all) ≡ batch + (if b then suc final else final)
    other_more true = omega (arith, is)
    other_more false = is

    by_closing : (c : Option ℕ) → call.closing ≡ c
        → (if was_not_run s n (Some call) reply then suc all else all) ≡ (if batch_was_not_run s n (Some call) reply then suc batch else batch) + (if final_was_not_run s n (Some call) reply then suc final else final)
    by_closing None closing = rw closing (one_more (is_not_run (reading s.config (sequences_at s n call.places) false reply)))
    by_closing (Some w) closing = rw closing (other_more (is_not_run (reading s.config (sequences_at s n call.places) true reply)))

all_not_run : (s : Setting) (h : List Entry) → not_run_count s h ≡ batch_calls_not_run s h + final_not_run s h
unfolding final_not_run
all_not_run s [] = refl
all_not_run s (Ended at reply m ∷ h) = not_run_parts s at.shard (last_call h at) reply (not_run_count s h) (batch_calls_not_run s h) (final_not_run s h) (all_not_run s h)
all_not_run s (Came n first count m ∷ h) = all_not_run s h
all_not_run s (Began at places c m ∷ h) = all_not_run s h
all_not_run s (Gave by n places f line state m ∷ h) = all_not_run s h
all_not_run s (Tried at places c t m ∷ h) = all_not_run s h
all_not_run s (Closed at w m ∷ h) = all_not_run s h
all_not_run s (Replayed n places m ∷ h) = all_not_run s h
all_not_run s (Shut m ∷ h) = all_not_run s h

-- the calls are the batches, the final calls that spent or hold a slot, and those that were not run

ends_count : (s : Setting) (r : ℕ) (h : List Entry) (at : LaneId) (reply : Reply) (o : Option Call) → Legal s h → last_call h at ≡ o → is_running h at ≡ true → FinalCharged s r h
    → batch_calls h + length (final_spent s r h) + final_not_run s h ≡ calls_begun h
    → batch_calls h + length (final_after_end s r h at.shard o reply (final_spent s r h)) + (if final_was_not_run s at.shard o reply then suc (final_not_run s h) else final_not_run s h) ≡ calls_begun h
unfolding final_was_not_run
ends_count s r h at reply None legal last runs was before = before
ends_count s r h at reply (Some call) legal last runs was before = by_closing call.closing refl
  where
    by_closing : (c : Option ℕ) → call.closing ≡ c
        → batch_calls h + length (final_after_end s r h at.shard (Some call) reply (final_spent s r h)) + (if final_was_not_run s at.shard (Some call) reply then suc (final_not_run s h) else final_not_run s h) ≡ calls_begun h
    by_closing None is = rw is before
    by_closing (Some w) is = rw (is, (good_calls s h legal at call last).empty w is) (
        let t = window_tries s h at.shard w in
        let x = reading s.config [] true reply in
        let gained = final_outcome r at.shard w t (ruling s.config 0 t x).rest in
        let left = removed (is_slot (slot at.shard w r)) (final_spent s r h) in
        let one : length gained + (if is_not_run x then 1 else 0) ≡ 1 = end_spends s.config r at.shard w t x (reading_final s.config [] reply) in
        let less : suc (length left) ≡ length (final_spent s r h) =
        removed-length (is_slot (slot at.shard w r)) (slot at.shard w r) (final_spent s r h) (is_slot-refl (slot at.shard w r)) ((was.running at w (record { runs = runs; call = call; last = last; of_window = is })).charged) in
        let all : length (gained ++ left) ≡ length gained + length left = length-append gained left in
        let more : batch_calls h + length (gained ++ left) + final_not_run s h + (if is_not_run x then 1 else 0) ≡ batch_calls h + length (gained ++ left) + (if is_not_run x then suc (final_not_run s h) else final_not_run s h) = more_if (is_not_run x) (batch_calls h + length (gained ++ left)) (final_not_run s h) in
        sym more ∙ omega (arith, one, less, all, before))

calls_counted : (s : Setting) (r : ℕ) (h : List Entry) → HasStreamFields s.config → s.config.retries ≡ Some r → r ≤ MAX_RETRIES → Legal s h → batch_calls h + length (final_spent s r h) + final_not_run s h ≡ calls_begun h
unfolding final_not_run
calls_counted s r [] fields finite within legal = refl
calls_counted s r (Began at places None m ∷ h) fields finite within legal = (let before : batch_calls h + length (final_spent s r h) + final_not_run s h ≡ calls_begun h = calls_counted s r h fields finite within legal.0 in omega (arith, before))
calls_counted s r (Began at places (Some w) m ∷ h) fields finite within legal = (let before : batch_calls h + length (final_spent s r h) + final_not_run s h ≡ calls_begun h = calls_counted s r h fields finite within legal.0 in omega (arith, before))
calls_counted s r (Ended at reply m ∷ h) fields finite within legal = ends_count s r h at reply (last_call h at) legal.0 refl legal.1.1 (final_charged s r h fields finite within legal.0) (calls_counted s r h fields finite within legal.0)
calls_counted s r (Came n first count m ∷ h) fields finite within legal = calls_counted s r h fields finite within legal.0
calls_counted s r (Gave by n places f line state m ∷ h) fields finite within legal = calls_counted s r h fields finite within legal.0
calls_counted s r (Tried at places c t m ∷ h) fields finite within legal = calls_counted s r h fields finite within legal.0
calls_counted s r (Closed at w m ∷ h) fields finite within legal = calls_counted s r h fields finite within legal.0
calls_counted s r (Replayed n places m ∷ h) fields finite within legal = calls_counted s r h fields finite within legal.0
calls_counted s r (Shut m ∷ h) fields finite within legal = calls_counted s r h fields finite within legal.0

-- the windows that there are

abbrev window : ℕ → ℕ → Window
window n w = record { shard = n; start = w }

window_from : (a b : Window) → a.shard ≡ b.shard → a.start ≡ b.start → a ≡ b
window_from a b shards starts =
    let first : ℕ → Window = λ n. record { shard = n; start = a.start } in
    let second : ℕ → Window = λ w. record { shard = b.shard; start = w } in
    ap first shards ∙ ap second starts

same_window-true : (a b : Window) → same_window a b ≡ true → b ≡ a
same_window-true a b is = (let parts = and_parts (a.shard == b.shard) (a.start == b.start) is in window_from b a (sym (eqb-true a.shard b.shard parts.0)) (sym (eqb-true a.start b.start parts.1)))

any_same : (w : Window) (ws : List Window) → list_any (same_window w) ws ≡ true → Has ws w
any_same w [] is = cc
any_same w (v ∷ ws) is = elim (or_cases (same_window w v) (list_any (same_window w) ws) is) [ inl here ↦ inl (same_window-true w v here) | inr there ↦ inr (any_same w ws there) ]

distinct_Has : (ws : List Window) (v : Window) → Has ws v → Has (distinct ws) v
distinct_Has [] v has = has
distinct_Has (w ∷ ws) v (inl is) =
    elim (cases_Bool (list_any (same_window w) ws)) [
      | inl again ↦ rw again (distinct_Has ws v (subst (λ u. Has ws u) is (any_same w ws again)))
      | inr once ↦ rw once (inl is)
    ]
distinct_Has (w ∷ ws) v (inr has) =
    elim (cases_Bool (list_any (same_window w) ws)) [
      | inl again ↦ rw again (distinct_Has ws v has)
      | inr once ↦ rw once (inr (distinct_Has ws v has))
    ]

map_Has : {A : Type 0} (g : ℕ → A) (xs : List ℕ) (i : ℕ) → In xs i → Has (map g xs) (g i)
map_Has g [] i member = cc
map_Has g (x ∷ xs) i member = elim (In-cases x xs i member) [ inl same ↦ inl (ap g same) | inr there ↦ inr (map_Has g xs i there) ]

flat_Has : {A : Type 0} (f : ℕ → List A) (ns : List ℕ) (n : ℕ) (a : A) → In ns n → Has (f n) a → Has (flat_map f ns) a
flat_Has f [] n a member has = cc
flat_Has f (k ∷ ns) n a member has =
    elim (In-cases k ns n member) [
      | inl same ↦ Has-left (f k) (flat_map f ns) a (subst (λ j. Has (f j) a) (sym same) has)
      | inr there ↦ Has-right (f k) (flat_map f ns) a (flat_Has f ns n a there has)
    ]

shard_In : (h : List Entry) (n : ℕ) → 1 ≤ came_count h n → In (shards_that_came h) n
shard_In [] n some = absurd (omega arith)
shard_In (Came k first count m ∷ h) n some =
    elim (cases_Bool (holds (shards_that_came h) k)) [
      | inl old ↦ rw old (elim (cases_Bool (k == n)) [
        | inl same ↦ subst (λ j. In (shards_that_came h) j) (eqb-true k n same) old
        | inr other ↦ shard_In h n (rw other at some)
      ])
      | inr new ↦ rw new (elim (cases_Bool (k == n)) [
        | inl same ↦ In-append_right (shards_that_came h) (k ∷ []) n (In-here k [] n (eqb-true k n same))
        | inr other ↦ In-append_left (shards_that_came h) (k ∷ []) n (shard_In h n (rw other at some))
      ])
    ]
shard_In (Began at places c m ∷ h) n some = shard_In h n some
shard_In (Ended at reply m ∷ h) n some = shard_In h n some
shard_In (Gave by k places f line state m ∷ h) n some = shard_In h n some
shard_In (Tried at places c t m ∷ h) n some = shard_In h n some
shard_In (Closed at w m ∷ h) n some = shard_In h n some
shard_In (Replayed k places m ∷ h) n some = shard_In h n some
shard_In (Shut m ∷ h) n some = shard_In h n some

found_Has : (fs : List FoundState) (n w : ℕ) → is_some (option_map (λ (f : FoundState). f.text) (find (λ (f : FoundState). (f.shard == n) && (f.window == w)) fs)) ≡ true
    → Has (map (λ (f : FoundState). window f.shard f.window) fs) (window n w)
found_Has [] n w is = cc
found_Has (f ∷ fs) n w is =
    elim (cases_Bool ((f.shard == n) && (f.window == w))) [
      | inl here ↦ (let parts = and_parts (f.shard == n) (f.window == w) here in inl (window_from (window f.shard f.window) (window n w) (eqb-true f.shard n parts.0) (eqb-true f.window w parts.1)))
      | inr other ↦ inr (found_Has fs n w (rw other at is))
    ]

abbrev all_windows : Setting → List Entry → List Window
all_windows s h = flat_map (windows_that_came s h) (shards_that_came h) ++ found_windows s

window_Has : (s : Setting) (h : List Entry) (n w : ℕ) → IsWindow s h n w → Has (all_windows s h) (window n w)
window_Has s h n w (inl came) =
    let low : came.0 < came_count h n = came.1 in
    let here : Has (windows_that_came s h n) (window n (window_of s n came.0)) = map_Has (λ (i : ℕ). window n (window_of s n i)) (came_places h n) came.0 (below-In (came_count h n) came.0 came.1) in
    Has-left (flat_map (windows_that_came s h) (shards_that_came h)) (found_windows s) (window n w)
    (flat_Has (windows_that_came s h) (shards_that_came h) n (window n w) (shard_In h n (omega (arith, low)))
    (subst (λ u. Has (windows_that_came s h n) (window n u)) came.2 here))
window_Has s h n w (inr found) = Has-right (flat_map (windows_that_came s h) (shards_that_came h)) (found_windows s) (window n w) (found_Has s.states n w found)

-- the slots of windows

window_slots : ℕ → List Window → List Slot
window_slots k [] = []
window_slots k (w ∷ ws) = slots_at w.shard w.start k ++ window_slots k ws

length_slots : (k : ℕ) (ws : List Window) → length (window_slots k ws) ≡ length ws * k
unfolding window_slots
length_slots k [] = omega arith
length_slots k (w ∷ ws) =
    length-append (slots_at w.shard w.start k) (window_slots k ws)
    ∙ ap (λ x. x + length (window_slots k ws)) (length_at w.shard w.start k)
    ∙ ap (λ x. k + x) (length_slots k ws)
    ∙ grind arith

has_slots : (k : ℕ) (ws : List Window) (x : Slot) → Has ws (window x.shard x.place) → x.number < k → Has (window_slots k ws) x
unfolding window_slots
has_slots k [] x has few = absurd has
has_slots k (w ∷ ws) x (inl is) few =
    Has-left (slots_at w.shard w.start k) (window_slots k ws) x (has_at w.shard w.start k x (sym (ap (λ (v : Window). v.shard) is)) (sym (ap (λ (v : Window). v.start) is)) few)
has_slots k (w ∷ ws) x (inr has) few = Has-right (slots_at w.shard w.start k) (window_slots k ws) x (has_slots k ws x has few)

finals_bounded : (s : Setting) (r : ℕ) (h : List Entry) → HasStreamFields s.config → s.config.retries ≡ Some r → r ≤ MAX_RETRIES → Legal s h → length (final_spent s r h) ≤ window_count s h * (r + 1)
finals_bounded s r h fields finite within legal =
    elim (cases_Bool (has_windows s.config)) [
      | inl has ↦ (
          let short : length (final_spent s r h) ≤ length (window_slots (r + 1) (distinct (all_windows s h))) = no_longer (final_spent s r h) (window_slots (r + 1) (distinct (all_windows s h))) all.apart
          (λ x member. (
          let is = all.meant x member in
          let small : x.number ≤ r = is.small in
          has_slots (r + 1) (distinct (all_windows s h)) x (distinct_Has (all_windows s h) (window x.shard x.place) (window_Has s h x.shard x.place is.window)) (omega (arith, small)))) in
          let slots : length (window_slots (r + 1) (distinct (all_windows s h))) ≡ length (distinct (all_windows s h)) * (r + 1) = length_slots (r + 1) (distinct (all_windows s h)) in
          rw has (subst (λ n. length (final_spent s r h) ≤ n) slots short))
      | inr none ↦ (
          let empty : length (final_spent s r h) ≤ 0 = no_longer (final_spent s r h) [] all.apart (λ x member. (let clash : true ≡ false = sym (all.meant x member).windowed ∙ none in cc)) in
          rw none (omega (arith, empty)))
    ]
  where
    all : FinalCharged s r h
    all = final_charged s r h fields finite within legal

-- the laws

one_each : (n r : ℕ) → n * (r + 3) ≡ n * (r + 2) + n
one_each n r = grind arith

pub within_bound : (s : Setting) (h : List Entry) (retries : ℕ) → IsFinite s.config retries → Legal s h → IsWithinBound s h
within_bound s h r finite legal =
    let within : r ≤ MAX_RETRIES = few_retries r s.config.retries finite.finite finite.fields.retries in
    let limit : unwrap_or s.config.retries 0 ≡ r = ap (λ o. unwrap_or o 0) finite.finite in
    let batches : batch_calls h ≤ record_count h * (r + 2) + batch_calls_not_run s h = batches_bounded s h r finite legal in
    let finals : length (final_spent s r h) ≤ window_count s h * (r + 1) = finals_bounded s r h finite.fields finite.finite within legal in
    let counted : batch_calls h + length (final_spent s r h) + final_not_run s h ≡ calls_begun h = calls_counted s r h finite.fields finite.finite within legal in
    let not_run : not_run_count s h ≡ batch_calls_not_run s h + final_not_run s h = all_not_run s h in
    let each : record_count h * (r + 3) ≡ record_count h * (r + 2) + record_count h = one_each (record_count h) r in
    let needed : calls_begun h + record_count h ≤ record_count h * (r + 3) + window_count s h * (r + 1) + not_run_count s h = omega (arith, batches, finals, counted, not_run, each) in
    rw limit needed

pub bounded : (s : Setting) (h : List Entry) (retries : ℕ) → IsFinite s.config retries → Legal s h → calls_begun h ≤ call_bound s h
bounded s h r finite legal = (let all : calls_begun h + record_count h ≤ call_bound s h = within_bound s h r finite legal in omega (arith, all))
