-- The places that an entry of a legal history names came before it.
use Rattle.std.proofs.Common.{◌≡◌, ℕ, ◌<◌, ◌≤◌, Bool, true, false, cond, List, [], ◌∷◌, ◌++◌, take, drop, refl, sym, subst, Option, Some, None, arith}
use Rattle.std.specs.Prelude.{⊤}
use Rattle.esm_model.specs.Lane.{same_lane}
use Rattle.esm_model.specs.declared.lane.LaneId.{LaneId}
use Rattle.esm_model.specs.declared.entry.Fate.{Fate}
use Rattle.esm_model.specs.declared.entry.Fate.TheVariants.{Succeeded, Filtered, Expired, Exhausted}
use Rattle.esm_model.specs.declared.entry.Reply.{Reply}
use Rattle.esm_model.specs.declared.entry.WindowState.{WindowState}
use Rattle.esm_model.specs.declared.verdict.Rest.{Rest}
use Rattle.esm_model.specs.declared.verdict.Rest.TheVariants as rest
use Rattle.esm_model.specs.declared.entry.Entry.{Entry}
use Rattle.esm_model.specs.declared.entry.Entry.TheVariants.{Came, Began, Ended, Gave, Tried, Closed, Replayed, Shut}
use Rattle.esm_model.specs.Setting.{Setting}
use Rattle.esm_model.specs.Entries.{Call, came_count, is_running, last_call, last_moment, batch_of}
use Rattle.esm_model.specs.Fates.{below}
use Rattle.esm_model.specs.Tries.{tries_of, verdict_after}
use Rattle.esm_model.specs.Owed.{Debt, Success, GiveUp, Try, Close, debts, debt_entry, success_debts, give_up_debts, close_debts, rest_debts, call_debts, end_debts, new_state, is_unsorted}
use Rattle.esm_model.specs.Step.{Legal}
use Rattle.esm_model.specs.Books.{NamesCame}
use Rattle.esm_model.proofs.Lists.{In, In-none, In-below, In-drop, In-filter}
use Rattle.esm_model.proofs.Steps.{came_grows}
use Rattle.esm_model.proofs.Debts.{first_debt}
use Rattle.esm_model.proofs.Sound.{same_lane-true, open_In}
use Rattle.esm_model.proofs.Paid.{gave_In}
use Rattle.esm_model.proofs.Histories.{began_In}
use Rattle.esm_model.proofs.Records.{Covered, covered_running}

-- what is tried came

abbrev TriesCame : List Entry → ℕ → Debt → Type 0
TriesCame h n (Try places closing tries) = Covered h n places
TriesCame h n (Success places state) = ⊤
TriesCame h n (GiveUp places) = ⊤
TriesCame h n (Close window) = ⊤

abbrev AllTriesCame : List Entry → ℕ → List Debt → Type 0
AllTriesCame h n [] = ⊤
AllTriesCame h n (d ∷ ds) = TriesCame h n d × AllTriesCame h n ds

tries_append : (h : List Entry) (n : ℕ) (ds es : List Debt) → AllTriesCame h n ds → AllTriesCame h n es → AllTriesCame h n (ds ++ es)
tries_append h n [] es a b = b
tries_append h n (d ∷ ds) es a b = (a.0, tries_append h n ds es a.1 b)

tries_drop : (h : List Entry) (n : ℕ) (ds : List Debt) → AllTriesCame h n ds → AllTriesCame h n (drop 1 ds)
tries_drop h n [] all = tt
tries_drop h n (d ∷ ds) all = all.1

tries_either : (h : List Entry) (n : ℕ) (b : Bool) (ds es : List Debt) → (b ≡ true → AllTriesCame h n ds) → AllTriesCame h n es → AllTriesCame h n (cond b ds es)
tries_either h n true ds es a c = a refl
tries_either h n false ds es a c = c

tries_more : (e : Entry) (h : List Entry) (n : ℕ) (ds : List Debt) → AllTriesCame h n ds → AllTriesCame (e ∷ h) n ds
tries_more e h n [] all = tt
tries_more e h n (Success places state ∷ ds) all = (tt, tries_more e h n ds all.1)
tries_more e h n (GiveUp places ∷ ds) all = (tt, tries_more e h n ds all.1)
tries_more e h n (Close window ∷ ds) all = (tt, tries_more e h n ds all.1)
tries_more e h n (Try places closing tries ∷ ds) all = ((λ i member. (let grows : came_count h n ≤ came_count (e ∷ h) n = came_grows e h n in let came : i < came_count h n = all.0 i member in omega (arith, grows, came))), tries_more e h n ds all.1)

tries_success : (h : List Entry) (n : ℕ) (xs : List ℕ) (state : Option WindowState) → AllTriesCame h n (success_debts xs state)
tries_success h n [] state = tt
tries_success h n (x ∷ xs) state = (tt, tt)

tries_close : (h : List Entry) (n : ℕ) (closing : Option ℕ) → AllTriesCame h n (close_debts closing)
tries_close h n None = tt
tries_close h n (Some w) = (tt, tt)

tries_give_up : (h : List Entry) (n : ℕ) (xs : List ℕ) → AllTriesCame h n (give_up_debts xs)
tries_give_up h n [] = tt
tries_give_up h n (x ∷ xs) = (tt, tt)

tries_rest : (h : List Entry) (n : ℕ) (r : Rest) (xs : List ℕ) (closing : Option ℕ) (t : ℕ) → Covered h n xs → AllTriesCame h n (rest_debts r xs closing t)
tries_rest h n rest.Nothing xs closing t covered = tries_close h n closing
tries_rest h n rest.Again xs closing t covered = tt
tries_rest h n (rest.Split k) xs closing t covered = tt
tries_rest h n rest.Counted xs closing t covered = (covered, tt)
tries_rest h n rest.Exhausted xs closing t covered = tries_append h n (give_up_debts xs) (close_debts closing) (tries_give_up h n xs) (tries_close h n closing)

tries_end : (s : Setting) (h : List Entry) (lane : LaneId) (o : Option Call) (reply : Reply) → Covered h lane.shard (batch_of o) → AllTriesCame h lane.shard (call_debts s h lane o reply)
tries_end s h lane None reply covered = tt
tries_end s h lane (Some call) reply covered =
    let done = (verdict_after s h lane reply).succeeded in
    tries_append h lane.shard (success_debts (take done call.places) (new_state s lane.shard call reply)) (rest_debts (verdict_after s h lane reply).rest (drop done call.places) call.closing (tries_of s h lane.shard call))
    (tries_success h lane.shard (take done call.places) (new_state s lane.shard call reply))
    (tries_rest h lane.shard (verdict_after s h lane reply).rest (drop done call.places) call.closing (tries_of s h lane.shard call) (λ i member. covered i (In-drop done call.places i member)))

owed_tries : (s : Setting) (h : List Entry) → Legal s h → (lane : LaneId) → AllTriesCame h lane.shard (debts s h lane)
owed_tries s [] legal lane = tt
owed_tries s (Ended at reply m ∷ h) legal lane =
    tries_either h lane.shard (same_lane at lane) (end_debts s h lane reply) (debts s h lane)
    (λ is. tries_end s h lane (last_call h lane) reply (covered_running s h lane legal.0 (subst (λ l. is_running h l ≡ true) (same_lane-true at lane is) legal.1.1)))
    (owed_tries s h legal.0 lane)
owed_tries s (Began at places closing m ∷ h) legal lane = tries_either h lane.shard (same_lane at lane) [] (debts s h lane) (λ is. tt) (owed_tries s h legal.0 lane)
owed_tries s (Gave None k places f line state m ∷ h) legal lane = owed_tries s h legal.0 lane
owed_tries s (Gave (Some at) k places f line state m ∷ h) legal lane = tries_either h lane.shard _ (drop 1 (debts s h lane)) (debts s h lane) (λ is. tries_drop h lane.shard (debts s h lane) (owed_tries s h legal.0 lane)) (owed_tries s h legal.0 lane)
owed_tries s (Tried at places closing t m ∷ h) legal lane = tries_either h lane.shard _ (drop 1 (debts s h lane)) (debts s h lane) (λ is. tries_drop h lane.shard (debts s h lane) (owed_tries s h legal.0 lane)) (owed_tries s h legal.0 lane)
owed_tries s (Closed at w m ∷ h) legal lane = tries_either h lane.shard _ (drop 1 (debts s h lane)) (debts s h lane) (λ is. tries_drop h lane.shard (debts s h lane) (owed_tries s h legal.0 lane)) (owed_tries s h legal.0 lane)
owed_tries s (Came k first count m ∷ h) legal lane = tries_more (Came k first count m) h lane.shard (debts s h lane) (owed_tries s h legal.0 lane)
owed_tries s (Replayed k places m ∷ h) legal lane = owed_tries s h legal.0 lane
owed_tries s (Shut m ∷ h) legal lane = owed_tries s h legal.0 lane

brought_try : (s : Setting) (h : List Entry) (lane : LaneId) (m : ℕ) (d : Debt) (ds : List Debt) (places : List ℕ) (closing : Option ℕ) (t k : ℕ) → debt_entry s h lane m d ≡ Tried lane places closing t k → AllTriesCame h lane.shard (d ∷ ds) → Covered h lane.shard places
brought_try s h lane m (Success owed state) ds places closing t k is all = cc
brought_try s h lane m (GiveUp owed) ds places closing t k is all = cc
brought_try s h lane m (Close window) ds places closing t k is all = cc
brought_try s h lane m (Try owed final tries) ds places closing t k is all = (let same : owed ≡ places = cc in subst (Covered h lane.shard) same all.0)

tried_came : (s : Setting) (h : List Entry) (lane : LaneId) (places : List ℕ) (closing : Option ℕ) (t m : ℕ) → Legal s (Tried lane places closing t m ∷ h) → Covered h lane.shard places
tried_came s h lane places closing t m legal =
    let is = first_debt s h lane (Tried lane places closing t m) legal.1.1 in
    brought_try s h lane (last_moment h) is.first (drop 1 (debts s h lane)) places closing t m is.brings (subst (AllTriesCame h lane.shard) is.parts (owed_tries s h legal.0 lane))

-- what gets a fate came

gave_came : (s : Setting) (h : List Entry) (by : Option LaneId) (n : ℕ) (places : List ℕ) (f : Fate) (line : Option (List ℕ)) (state : Option WindowState) (m : ℕ) → Legal s (Gave by n places f line state m ∷ h) → Covered h n places
gave_came s h None n places Filtered line state m legal i member =
    In-below (came_count h n) i (In-filter (is_unsorted s h n) (below (came_count h n)) i (subst (λ xs. In xs i) legal.1.1.exact member)).0
gave_came s h None n places Succeeded line state m legal i member = absurd legal.1.1
gave_came s h None n places Expired line state m legal i member = absurd legal.1.1
gave_came s h None n places Exhausted line state m legal i member = absurd legal.1.1
gave_came s h (Some at) n places f line state m legal i member =
    let facts = gave_In s h at n places f line state m legal in
    subst (λ k. i < came_count h k) (sym facts.0) (open_In s h at i (facts.1 i member)).0

pub names_came : (s : Setting) (h : List Entry) (e : Entry) → Legal s (e ∷ h) → NamesCame h e
names_came s h (Began lane places None m) legal = λ i member. (open_In s h lane i (began_In s h lane places m legal.1.1 i member)).0
names_came s h (Began lane places (Some w) m) legal = λ i member. absurd (In-none i (subst (λ xs. In xs i) legal.1.1.no_places member))
names_came s h (Gave by n places f line state m) legal = gave_came s h by n places f line state m legal
names_came s h (Tried lane places closing t m) legal = tried_came s h lane places closing t m legal
names_came s h (Replayed n places m) legal = absurd legal.1.1
names_came s h (Came n first count m) legal = tt
names_came s h (Ended lane reply m) legal = tt
names_came s h (Closed lane w m) legal = tt
names_came s h (Shut m) legal = tt
