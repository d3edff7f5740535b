-- What a call that ends names, or an expiry, is open before it.
use Rattle.std.proofs.Common.{◌≡◌, ℕ, true, cond, List, [], ◌∷◌, ◌++◌, take, drop, map, refl, sym, ap, subst, Option, Some, None}
use Rattle.std.specs.Prelude.{⊤}
use Rattle.std.proofs.lemmas.List.Elements.{All-cons, All-nil}
use Rattle.esm_model.specs.declared.lane.LaneId.{LaneId}
use Rattle.esm_model.specs.declared.entry.Fate.TheVariants.{Expired}
use Rattle.esm_model.specs.declared.entry.Reply.{Reply}
use Rattle.esm_model.specs.declared.entry.WindowState.{WindowState}
use Rattle.esm_model.specs.declared.entry.Entry.{Entry}
use Rattle.esm_model.specs.declared.entry.Entry.TheVariants.{Ended, Gave}
use Rattle.esm_model.specs.declared.verdict.Rest.{Rest}
use Rattle.esm_model.specs.declared.verdict.Rest.TheVariants as rest
use Rattle.esm_model.specs.Setting.{Setting}
use Rattle.esm_model.specs.Entries.{Call, last_moment, last_call, batch_of, is_running}
use Rattle.esm_model.specs.Fates.{lacks_fate}
use Rattle.esm_model.specs.Tries.{tries_of, verdict_after}
use Rattle.esm_model.specs.Owed.{Debt, Success, GiveUp, Try, Close, debts, debt_entry, success_debts, give_up_debts, close_debts, rest_debts, call_debts, end_debts, new_state, owed}
use Rattle.esm_model.specs.Step.{Legal}
use Rattle.esm_model.proofs.Lists.{In, In-here, In-there, In-none, In-take, In-drop}
use Rattle.esm_model.proofs.Steps.{same_lane-refl}
use Rattle.esm_model.proofs.Sound.{open_In}
use Rattle.esm_model.proofs.Paid.{running_In, gave_open}
use Rattle.esm_ledger.specs.Reading.{AreOpen}
use Rattle.esm_outcome.specs.Ending.{MaySettle}
use Rattle.esm_stream_core.specs.Acts.{NamesOpen, AllNameOpen}
use Rattle.esm_stream_core.proofs.Rooms.{own_legal}

all_open : (s : Setting) (h : List Entry) (n : ℕ) (xs : List ℕ) → ((i : ℕ) → In xs i → lacks_fate s h n i ≡ true) → AreOpen s h n xs
all_open s h n [] each = All-nil (λ i. lacks_fate s h n i ≡ true)
all_open s h n (x ∷ xs) each =
    All-cons (λ i. lacks_fate s h n i ≡ true) x xs (each x (In-here x xs x refl)) (all_open s h n xs (λ i member. each i (In-there x xs i member)))

-- records that expire
pub expiry_open : (s : Setting) (h : List Entry) (lane : LaneId) (places : List ℕ) (line : Option (List ℕ)) (m : ℕ) → MaySettle s h (Gave (Some lane) lane.shard places Expired line None m ∷ []) → AreOpen s h lane.shard places
expiry_open s h lane places line m may =
    all_open s h lane.shard places
    (λ i member. gave_open s h (Some lane) lane.shard places Expired line None m (own_legal s (Gave (Some lane) lane.shard places Expired line None m ∷ h) may.0) i member)

-- what the end of a call calls for names records of its batch

abbrev names_of : Debt → List ℕ
names_of (Success places state) = places
names_of (GiveUp places) = places
names_of (Try places closing tries) = places
names_of (Close window) = []

abbrev Within : List ℕ → List ℕ → Type 0
Within xs all = (i : ℕ) → In xs i → In all i

abbrev AreNamed : List ℕ → List Debt → Type 0
AreNamed all [] = ⊤
AreNamed all (d ∷ ds) = Within (names_of d) all × AreNamed all ds

success_named : (xs all : List ℕ) (state : Option WindowState) (ds : List Debt) → Within xs all → AreNamed all ds → AreNamed all (success_debts xs state ++ ds)
success_named [] all state ds within named = named
success_named (x ∷ xs) all state ds within named = (within, named)

close_named : (all : List ℕ) (closing : Option ℕ) → AreNamed all (close_debts closing)
close_named all None = tt
close_named all (Some w) = (λ i member. absurd (In-none i member), tt)

give_up_named : (xs all : List ℕ) (closing : Option ℕ) → Within xs all → AreNamed all (give_up_debts xs ++ close_debts closing)
give_up_named [] all closing within = close_named all closing
give_up_named (x ∷ xs) all closing within = (within, close_named all closing)

rest_named : (r : Rest) (xs all : List ℕ) (closing : Option ℕ) (t : ℕ) → Within xs all → AreNamed all (rest_debts r xs closing t)
rest_named rest.Nothing xs all closing t within = close_named all closing
rest_named rest.Again xs all closing t within = tt
rest_named (rest.Split k) xs all closing t within = tt
rest_named rest.Counted xs all closing t within = (within, tt)
rest_named rest.Exhausted xs all closing t within = give_up_named xs all closing within

end_named : (s : Setting) (h : List Entry) (lane : LaneId) (reply : Reply) → AreNamed (batch_of (last_call h lane)) (end_debts s h lane reply)
end_named s h lane reply = at (last_call h lane)
  where
    at : (o : Option Call) → AreNamed (batch_of o) (call_debts s h lane o reply)
    at None = tt
    at (Some call) =
        let done = (verdict_after s h lane reply).succeeded in
        let t = tries_of s h lane.shard call in
        success_named (take done call.places) call.places (new_state s lane.shard call reply) (rest_debts (verdict_after s h lane reply).rest (drop done call.places) call.closing t)
        (λ i member. In-take done call.places i member)
        (rest_named (verdict_after s h lane reply).rest (drop done call.places) call.places call.closing t (λ i member. In-drop done call.places i member))

-- as the entries that bring it, which may say more of a longer history

debt_open : (s : Setting) (h g : List Entry) (lane : LaneId) (m : ℕ) (d : Debt) → ((i : ℕ) → In (names_of d) i → lacks_fate s h lane.shard i ≡ true) → NamesOpen s h (debt_entry s g lane m d)
debt_open s h g lane m (Success places state) each = all_open s h lane.shard places each
debt_open s h g lane m (GiveUp places) each = all_open s h lane.shard places each
debt_open s h g lane m (Try places closing tries) each = all_open s h lane.shard places each
debt_open s h g lane m (Close window) each = tt

debts_open : (s : Setting) (h g : List Entry) (lane : LaneId) (m : ℕ) (all : List ℕ) (ds : List Debt) → ((i : ℕ) → In all i → lacks_fate s h lane.shard i ≡ true) → AreNamed all ds → AllNameOpen s h (map (debt_entry s g lane m) ds)
debts_open s h g lane m all [] each named = tt
debts_open s h g lane m all (d ∷ ds) each named = (debt_open s h g lane m d (λ i member. each i (named.0 i member)), debts_open s h g lane m all ds each named.1)

-- the records of a call that runs, and so all that its end calls for
pub end_open : (s : Setting) (h : List Entry) (lane : LaneId) (reply : Reply) (m : ℕ) → Legal s h → is_running h lane ≡ true → AllNameOpen s h (owed s (Ended lane reply m ∷ h) lane)
end_open s h lane reply m legal runs =
    let owes : debts s (Ended lane reply m ∷ h) lane ≡ end_debts s h lane reply = ap (λ b. cond b (end_debts s h lane reply) (debts s h lane)) (same_lane-refl lane) in
    debts_open s h (Ended lane reply m ∷ h) lane (last_moment (Ended lane reply m ∷ h)) (batch_of (last_call h lane)) (debts s (Ended lane reply m ∷ h) lane)
    (λ i member. (open_In s h lane i (running_In s h lane legal runs i member)).2)
    (subst (λ (ds : List Debt). AreNamed (batch_of (last_call h lane)) ds) (sym owes) (end_named s h lane reply))
