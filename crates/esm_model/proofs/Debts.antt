-- The places of what a lane owes, and the entries that pay it.
use Rattle.std.proofs.Common.{◌≡◌, ℕ, true, List, [], ◌∷◌, ◌++◌, take, drop, map, refl, sym, ap, ◌∙◌, subst, Option, Some, None, append_assoc}
use Rattle.std.specs.Prelude.{nat_eq, slice_get}
use Rattle.std.specs.Option.{option_eq}
use Rattle.std.proofs.lemmas.Bool.{eq-eqb}
use Rattle.std.proofs.lemmas.Slice.Eq.{bytes_eq-Decides}
use Rattle.std.proofs.lemmas.List.{append-nil, take-append-drop}
use Rattle.esm_model.specs.declared.entry.Fate.{Fate}
use Rattle.esm_model.specs.declared.lane.LaneId.{LaneId}
use Rattle.esm_model.specs.declared.entry.Reply.{Reply}
use Rattle.esm_model.specs.declared.entry.WindowState.{WindowState}
use Rattle.esm_model.specs.declared.entry.Entry.{Entry}
use Rattle.esm_model.specs.declared.entry.Entry.TheVariants.{Gave}
use Rattle.esm_model.specs.declared.verdict.Rest.{Rest}
use Rattle.esm_model.specs.declared.verdict.Rest.TheVariants as rest
use Rattle.esm_model.specs.declared.verdict.Verdict.{Verdict}
use Rattle.esm_model.specs.Setting.{Setting}
use Rattle.esm_model.specs.Entries.{Call, last_moment, last_call, batch_of}
use Rattle.esm_model.specs.Tries.{tries_of, verdict_after}
use Rattle.esm_model.specs.Owed.{Debt, Success, GiveUp, Try, Close, debts, debt_entry, success_debts, give_up_debts, close_debts, rest_debts, verdict_debts, call_debts, end_debts, new_state, same_places, pays, IsOwed}
use Rattle.esm_model.proofs.Lists.{IsFront}
use Rattle.esm_model.proofs.Steps.{same_lane-refl}

-- the places that an entry gives a fate
abbrev pub gave_places : Entry → List ℕ
gave_places (Gave by shard places f line state moment) = places
gave_places _ = []

abbrev pub places_of : Debt → List ℕ
places_of (Success places state) = places
places_of (GiveUp places) = places
places_of (Try places closing tries) = []
places_of (Close window) = []

abbrev pub debt_places : List Debt → List ℕ
debt_places [] = []
debt_places (d ∷ ds) = places_of d ++ debt_places ds

-- the entry gives a fate to those places
pub gives_places : (s : Setting) (h : List Entry) (lane : LaneId) (m : ℕ) (d : Debt) → gave_places (debt_entry s h lane m d) ≡ places_of d
gives_places s h lane m (Success places state) = refl
gives_places s h lane m (GiveUp places) = refl
gives_places s h lane m (Try places closing tries) = refl
gives_places s h lane m (Close window) = refl

-- a `Gave` among them is of the lane's shard
pub gives_in_shard : (s : Setting) (h : List Entry) (lane : LaneId) (m : ℕ) (d : Debt) (by : Option LaneId) (n : ℕ) (places : List ℕ) (f : Fate) (line : Option (List ℕ)) (state : Option WindowState) (k : ℕ)
    → debt_entry s h lane m d ≡ Gave by n places f line state k → n ≡ lane.shard
gives_in_shard s h lane m (Success given left) by n places f line state k is = cc
gives_in_shard s h lane m (GiveUp given) by n places f line state k is = cc
gives_in_shard s h lane m (Try given closing tries) by n places f line state k is = cc
gives_in_shard s h lane m (Close window) by n places f line state k is = cc

-- the first of what is owed, where the entry pays it
pub record IsFirstDebt (s : Setting) (h : List Entry) (lane : LaneId) (e : Entry) : Type 0 where
  pub first : Debt
  pub parts : debts s h lane ≡ first ∷ drop 1 (debts s h lane)
  pub brings : debt_entry s h lane (last_moment h) first ≡ e
  pub places : places_of first ≡ gave_places e

first_at : (f : Debt → Entry) (ds : List Debt) (e : Entry) → slice_get (map f ds) 0 ≡ Some e → (d : Debt) × (ds ≡ d ∷ drop 1 ds) × (f d ≡ e)
first_at f [] e is = cc
first_at f (d ∷ ds) e is = (d, refl, cc)

pub first_debt : (s : Setting) (h : List Entry) (lane : LaneId) (e : Entry) → IsOwed s h lane e → IsFirstDebt s h lane e
first_debt s h lane e is =
    let found = first_at (debt_entry s h lane (last_moment h)) (debts s h lane) e is in
    record { first = found.0; parts = found.1; brings = found.2; places = sym (gives_places s h lane (last_moment h) found.0) ∙ ap gave_places found.2 }

-- the entry of the first debt pays it

option_eq-refl : (o : Option ℕ) → option_eq nat_eq o o ≡ true
option_eq-refl None = refl
option_eq-refl (Some x) = eq-eqb x x refl

same_places-refl : (xs : List ℕ) → same_places xs xs ≡ true
same_places-refl xs = (bytes_eq-Decides xs xs).1 refl

pub pays_own : (s : Setting) (h : List Entry) (lane : LaneId) (m : ℕ) (d : Debt) (ds rest : List Debt) → ds ≡ d ∷ rest → pays lane ds (debt_entry s h lane m d) ≡ true
pays_own s h lane m (Success places state) ds rest is = rw (is, same_lane-refl lane, same_places-refl places) (eq-eqb lane.shard lane.shard refl)
pays_own s h lane m (GiveUp places) ds rest is = rw (is, same_lane-refl lane, same_places-refl places) (eq-eqb lane.shard lane.shard refl)
pays_own s h lane m (Try places closing tries) ds rest is = rw (is, same_lane-refl lane, same_places-refl places, option_eq-refl closing) (eq-eqb tries tries refl)
pays_own s h lane m (Close window) ds rest is = rw (is, same_lane-refl lane) (eq-eqb window window refl)

-- and takes it from what the lane owes
pub debt_brought : (s : Setting) (h : List Entry) (lane : LaneId) (m : ℕ) (d : Debt) (rest : List Debt) → debts s h lane ≡ d ∷ rest → debts s (debt_entry s h lane m d ∷ h) lane ≡ drop 1 (debts s h lane)
debt_brought s h lane m d rest is = pay d (pays_own s h lane m d (debts s h lane) rest is)
  where
    pay : (d : Debt) → pays lane (debts s h lane) (debt_entry s h lane m d) ≡ true → debts s (debt_entry s h lane m d ∷ h) lane ≡ drop 1 (debts s h lane)
    pay (Success places state) pays_it = rw pays_it refl
    pay (GiveUp places) pays_it = rw pays_it refl
    pay (Try places closing tries) pays_it = rw pays_it refl
    pay (Close window) pays_it = rw pays_it refl

-- so does the first entry that is owed
pub debt_paid : (s : Setting) (h : List Entry) (lane : LaneId) (e : Entry) → IsOwed s h lane e → debts s (e ∷ h) lane ≡ drop 1 (debts s h lane)
debt_paid s h lane e owed =
    let first = first_debt s h lane e owed in
    subst (λ x. debts s (x ∷ h) lane ≡ drop 1 (debts s h lane)) first.brings (debt_brought s h lane (last_moment h) first.first (drop 1 (debts s h lane)) first.parts)

-- what an end makes the lane owe is a front of its batch

success_places : (xs : List ℕ) (state : Option WindowState) (ds : List Debt) → debt_places (success_debts xs state ++ ds) ≡ xs ++ debt_places ds
success_places [] state ds = refl
success_places (x ∷ xs) state ds = refl

close_places : (closing : Option ℕ) → debt_places (close_debts closing) ≡ []
close_places None = refl
close_places (Some w) = refl

give_up_places : (xs : List ℕ) (closing : Option ℕ) → debt_places (give_up_debts xs ++ close_debts closing) ≡ xs
give_up_places [] closing = close_places closing
give_up_places (x ∷ xs) closing = ap (λ zs. (x ∷ xs) ++ zs) (close_places closing) ∙ append-nil (x ∷ xs)

rest_places : (r : Rest) (xs : List ℕ) (closing : Option ℕ) (t : ℕ) → IsFront (debt_places (rest_debts r xs closing t)) xs
rest_places rest.Nothing xs closing t = (xs, ap (λ zs. zs ++ xs) (sym (close_places closing)))
rest_places rest.Again xs closing t = (xs, refl)
rest_places rest.Counted xs closing t = (xs, refl)
rest_places (rest.Split k) xs closing t = (xs, refl)
rest_places rest.Exhausted xs closing t = ([], sym (append-nil _ ∙ give_up_places xs closing))

verdict_places : (s : Setting) (n : ℕ) (call : Call) (t : ℕ) (v : Verdict) (reply : Reply) → IsFront (debt_places (verdict_debts s n call t v reply)) call.places
verdict_places s n call t v reply =
    let rest = rest_debts v.rest (drop v.succeeded call.places) call.closing t in
    let front = rest_places v.rest (drop v.succeeded call.places) call.closing t in (
      front.0,
      sym (take-append-drop v.succeeded call.places) ∙ ap (λ zs. take v.succeeded call.places ++ zs) front.1
          ∙ sym (append_assoc (take v.succeeded call.places) (debt_places rest) front.0)
          ∙ ap (λ zs. zs ++ front.0) (sym (success_places (take v.succeeded call.places) (new_state s n call reply) rest)),
    )

pub end_places : (s : Setting) (h : List Entry) (lane : LaneId) (reply : Reply) → IsFront (debt_places (end_debts s h lane reply)) (batch_of (last_call h lane))
end_places s h lane reply = end_at (last_call h lane)
  where
    end_at : (o : Option Call) → IsFront (debt_places (call_debts s h lane o reply)) (batch_of o)
    end_at None = ([], refl)
    end_at (Some call) = verdict_places s lane.shard call (tries_of s h lane.shard call) (verdict_after s h lane reply) reply
