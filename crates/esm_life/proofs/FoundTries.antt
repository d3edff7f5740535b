-- What a content says of tries is within one of what the history that wrote it knows, and never more.
use Rattle.std.proofs.Common.{◌≡◌, ℕ, suc, ◌+◌, ◌<◌, ◌≤◌, Bool, true, false, not, ◌&&◌, ◌||◌, List, [], ◌∷◌, ◌++◌, drop, refl, sym, ap, ◌∙◌, subst, inl, inr, arith, Option, Some, None}
use Rattle.std.specs.Prelude.{◌==◌, filter_map, find, is_some, option_map, unwrap_or, reverse, slice_index, if◌then◌else◌}
use Rattle.std.specs.List.{list_any}
use Rattle.std.specs.Option.{option_or}
use Rattle.std.proofs.lemmas.Bool.{cases_Bool, and_parts, eqb-true, both_ways, not-true, or_parts}
use Rattle.std.proofs.lemmas.List.Folds.{list_any-append}
use Rattle.esm_model.specs.Lane.{same_lane}
use Rattle.esm_model.specs.declared.lane.LaneId.{LaneId}
use Rattle.esm_model.specs.declared.entry.Reply.{Reply}
use Rattle.esm_model.specs.declared.entry.Fate.{Fate}
use Rattle.esm_model.specs.declared.entry.WindowState.{WindowState}
use Rattle.esm_model.specs.declared.entry.Entry.{Entry}
use Rattle.esm_model.specs.declared.entry.Entry.TheVariants.{Came, Began, Ended, Gave, Tried, Closed, Replayed, Shut}
use Rattle.esm_model.specs.declared.setup.FoundTries.{FoundTries}
use Rattle.esm_model.specs.declared.setup.FoundWindowTries.{FoundWindowTries}
use Rattle.esm_model.specs.Valid.{HasStreamFields}
use Rattle.esm_model.specs.Setting.{Setting, found_tries, found_window_tries, sequences_at}
use Rattle.esm_model.specs.Entries.{Call, holds, is_running, last_call, last_moment, batch_of}
use Rattle.esm_model.specs.Fates.{lacks_fate}
use Rattle.esm_model.specs.Ruling.{capped_tries, is_counted}
use Rattle.esm_model.specs.Tries.{call_verdict, counts_in_call, counts_in_final_call, tries, tries_sum, window_tries, window_tries_sum}
use Rattle.esm_model.specs.Owed.{Debt, Success, GiveUp, Try, Close, debts, debt_entry}
use Rattle.esm_model.specs.Step.{Legal}
use Rattle.esm_model.proofs.Lists.{In, In-none, In-drop}
use Rattle.esm_model.proofs.Steps.{lacks_gave}
use Rattle.esm_model.proofs.Debts.{first_debt}
use Rattle.esm_model.proofs.NamedPlaces.{names_came}
use Rattle.esm_model.proofs.Sound.{same_lane-true, sound}
use Rattle.esm_journal_record.specs.declared.said.Said.{Said}
use Rattle.esm_journal_record.specs.EntryPayload.{AllMayBeSaid, entry_said}
use Rattle.esm_journal_state.specs.declared.kept.KeptTries.{KeptTries}
use Rattle.esm_journal_state.specs.Meaning.{history, only_at, text_named, tries_kept, tries_said, window_tries_said}
use Rattle.esm_journal_state.specs.SaidLists.{tries_told}
use Rattle.esm_journal_state.specs.Tells.{tries_of_found}
use Rattle.esm_history.specs.Content.{IsOpenedOver, content_after}
use Rattle.esm_history.proofs.Finals.{lanes_alone, owes_low, running_low}
use Rattle.esm_history.proofs.KeptFinalTries.{final_tries_stand}
use Rattle.esm_history.proofs.KeptTries.{number_said, tries_stand}
use Rattle.esm_history.proofs.OwedFinalTries.{FinalTriesAre, final_tries, final_tries_owed}
use Rattle.esm_history.proofs.OwedTries.{TriesAre, out_of_batch, tries_owed, try_places}
use Rattle.esm_history.proofs.Saids.{content_said, covered_stand, text_there}
use Rattle.esm_life.specs.Tries.{FindsTries, FindsWindowTries, TriesGoOn, is_final_try_of, is_try_of}

-- within one, and never more
pub record IsNear (said known : ℕ) : Type 0 where
  pub no_more : said ≤ known
  pub one_less : known ≤ said + 1

near_same : (a b : ℕ) → a ≡ b → IsNear a b
near_same a b same = record { no_more = omega (arith, same); one_less = omega (arith, same) }

-- one more try than what is said
near_more : (a sum : ℕ) → a ≡ capped_tries sum → IsNear a (capped_tries (suc sum))
near_more a sum same = record { no_more = omega (arith, same); one_less = omega (arith, same) }

capped_twice : (n : ℕ) → capped_tries (capped_tries n) ≡ capped_tries n
capped_twice n = omega arith

-- records

said_named : (b : Bool) (t : Option (List ℕ)) (k : ℕ) (before : Option KeptTries) → b ≡ true → is_some t ≡ true → number_said (option_or (only_at b (option_map (tries_kept k) t)) before) ≡ k
said_named false t k before here named = cc
said_named true None k before here named = cc
said_named true (Some text) k before here named = refl

said_other : (b : Bool) (t : Option (List ℕ)) (k : ℕ) (before : Option KeptTries) → (b && is_some t) ≡ false → option_or (only_at b (option_map (tries_kept k) t)) before ≡ before
said_other false t k before other = refl
said_other true None k before other = refl
said_other true (Some text) k before other = cc

tried_number : (s : Setting) (h : List Entry) (at : LaneId) (m : ℕ) (d : Debt) (ds : List Debt) (places : List ℕ) (t k : ℕ) → debt_entry s h at m d ≡ Tried at places None t k → TriesAre (tries s h at.shard) (d ∷ ds) → (i : ℕ) → In places i → tries s h at.shard i ≡ t
tried_number s h at m (Try own None number) ds places t k is are i member =
    (let same : own ≡ places = cc in let count : number ≡ t = cc in are.0 i (subst (λ xs. In xs i) (sym same) member) ∙ count)
tried_number s h at m (Try own (Some w) number) ds places t k is are i member = cc
tried_number s h at m (Success own state) ds places t k is are i member = cc
tried_number s h at m (GiveUp own) ds places t k is are i member = cc
tried_number s h at m (Close w) ds places t k is are i member = cc

counted_inside : (s : Setting) (n : ℕ) (o : Option Call) (before : ℕ → ℕ) (reply : Reply) (i : ℕ) → counts_in_call s n o before reply i ≡ true → In (batch_of o) i
counted_inside s n None before reply i is = cc
counted_inside s n (Some call) before reply i is =
    (let v = call_verdict s n call (capped_tries (before (slice_index call.places 0))) reply in
    In-drop v.succeeded call.places i (and_parts (is_counted v.rest) (holds (drop v.succeeded call.places) i) is).1)

-- a lane that runs is owed nothing
quiet_lane : (s : Setting) (h : List Entry) (at lane : LaneId) → Legal s h → is_running h at ≡ true → at ≡ lane → debts s h lane ≡ []
quiet_lane s h at lane legal runs same = (sound s h legal lane).quiet (subst (λ l. is_running h l ≡ true) same runs)

abbrev said_tries : Setting → List Said → List Entry → ℕ → ℕ → ℕ
said_tries s old h n i = capped_tries (number_said (tries_said (filter_map (entry_said s) h ++ old) n i))

abbrev IsFound : Setting → List Said → Type 0
IsFound s old = (n i : ℕ) → number_said (tries_said old n i) ≡ found_tries s n i

near_ended : (s : Setting) (old : List Said) (h : List Entry) (at : LaneId) (reply : Reply) (m n i : ℕ) → Legal s (Ended at reply m ∷ h) → IsFound s old → lacks_fate s h n i ≡ true → IsNear (said_tries s old h n i) (tries s h n i) → IsNear (said_tries s old h n i) (tries s (Ended at reply m ∷ h) n i)
near_ended s old h at reply m n i legal found lacks before =
    elim (cases_Bool ((at.shard == n) && counts_in_call s n (last_call h at) (tries_sum s h n) reply i)) [
      | inr not ↦ rw not before
      | inl counted ↦ (
          let parts = and_parts (at.shard == n) (counts_in_call s n (last_call h at) (tries_sum s h n) reply i) counted in
          let shard : at.shard ≡ n = eqb-true at.shard n parts.0 in
          let inside : In (batch_of (last_call h at)) i = counted_inside s n (last_call h at) (tries_sum s h n) reply i parts.1 in
          let same : said_tries s old h n i ≡ tries s h n i = tries_stand s old h legal.0 found n i lacks
          (λ lane own member.
          elim (cases_Bool (same_lane at lane)) [
            | inl same ↦ In-none i (subst (λ ds. In (try_places ds) i) (quiet_lane s h at lane legal.0 legal.1.1 (same_lane-true at lane same)) member)
            | inr other ↦ out_of_batch s h at lane i legal.0 legal.1.1 other ((tries_owed s h legal.0).in_lane lane i member) (shard ∙ sym own) inside
          ]) in
          rw counted (near_more (said_tries s old h n i) (tries_sum s h n i) same))
    ]

near_tried : (s : Setting) (old : List Said) (h : List Entry) (at : LaneId) (places : List ℕ) (t m n i : ℕ) → Legal s (Tried at places None t m ∷ h) → IsNear (said_tries s old h n i) (tries s h n i) → IsNear (said_tries s old (Tried at places None t m ∷ h) n i) (tries s h n i)
near_tried s old h at places t m n i legal before =
    let texts = text_named places (sequences_at s at.shard places) i in
    let was = tries_said (filter_map (entry_said s) h ++ old) n i in
    let there : is_some texts ≡ holds places i = text_there s at.shard places (covered_stand s h at.shard places legal.0 (names_came s h (Tried at places None t m) legal)) i in
    elim (cases_Bool ((at.shard == n) && holds places i)) [
      | inl named ↦ (
          let parts = and_parts (at.shard == n) (holds places i) named in
          let shard : at.shard ≡ n = eqb-true at.shard n parts.0 in
          let first = first_debt s h at (Tried at places None t m) legal.1.1 in
          let are : TriesAre (tries s h at.shard) (first.first ∷ drop 1 (debts s h at)) = subst (TriesAre (tries s h at.shard)) first.parts ((tries_owed s h legal.0).numbers at) in
          let number : tries s h at.shard i ≡ t = tried_number s h at (last_moment h) first.first (drop 1 (debts s h at)) places t m first.brings are i parts.1 in
          let said : number_said (option_or (only_at (at.shard == n) (option_map (tries_kept t) texts)) was) ≡ t = said_named (at.shard == n) texts t was parts.0 (there ∙ parts.1) in
          near_same (said_tries s old (Tried at places None t m ∷ h) n i) (tries s h n i)
          (ap capped_tries said ∙ (ap capped_tries (sym number) ∙ (capped_twice (tries_sum s h at.shard i) ∙ ap (λ k. tries s h k i) shard))))
      | inr other ↦ (
          let out : ((at.shard == n) && is_some texts) ≡ false = ap (λ b. (at.shard == n) && b) there ∙ other in
          subst (λ k. IsNear k (tries s h n i)) (sym (ap (λ o. capped_tries (number_said o)) (said_other (at.shard == n) texts t was out))) before)
    ]

lacks_earlier : (s : Setting) (h : List Entry) (by : Option LaneId) (k : ℕ) (places : List ℕ) (f : Fate) (line : Option (List ℕ)) (state : Option WindowState) (m n i : ℕ) → lacks_fate s (Gave by k places f line state m ∷ h) n i ≡ true → (lacks_fate s h n i ≡ true) × (((k == n) && holds places i) ≡ false)
lacks_earlier s h by k places f line state m n i lacks =
    (let both : (lacks_fate s h n i && not ((k == n) && holds places i)) ≡ true = sym (lacks_gave s by k places f line state m h n i) ∙ lacks in
    let parts = and_parts (lacks_fate s h n i) (not ((k == n) && holds places i)) both in
    (parts.0, not-true ((k == n) && holds places i) parts.1))

near : (s : Setting) (old : List Said) (h : List Entry) → Legal s h → IsFound s old → (n i : ℕ) → lacks_fate s h n i ≡ true → IsNear (said_tries s old h n i) (tries s h n i)
near s old [] legal found n i lacks = near_same (said_tries s old [] n i) (tries s [] n i) (ap capped_tries (found n i))
near s old (Came k first count m ∷ h) legal found n i lacks = near s old h legal.0 found n i lacks
near s old (Began at places c m ∷ h) legal found n i lacks = near s old h legal.0 found n i lacks
near s old (Ended at reply m ∷ h) legal found n i lacks = near_ended s old h at reply m n i legal found lacks (near s old h legal.0 found n i lacks)
near s old (Gave by k places f line state m ∷ h) legal found n i lacks =
    (let earlier = lacks_earlier s h by k places f line state m n i lacks in
    subst (λ x. IsNear x (tries s h n i)) (sym (ap (λ b. capped_tries (number_said (if b then None else tries_said (filter_map (entry_said s) h ++ old) n i))) earlier.1)) (near s old h legal.0 found n i earlier.0))
near s old (Tried at places None t m ∷ h) legal found n i lacks = near_tried s old h at places t m n i legal (near s old h legal.0 found n i lacks)
near s old (Tried at places (Some w) t m ∷ h) legal found n i lacks = near s old h legal.0 found n i lacks
near s old (Closed at w m ∷ h) legal found n i lacks = near s old h legal.0 found n i lacks
near s old (Replayed k places m ∷ h) legal found n i lacks = absurd legal.1.1
near s old (Shut m ∷ h) legal found n i lacks = near s old h legal.0 found n i lacks

-- windows

tried_final : (s : Setting) (h : List Entry) (at : LaneId) (m : ℕ) (d : Debt) (ds : List Debt) (places : List ℕ) (v t k : ℕ) → debt_entry s h at m d ≡ Tried at places (Some v) t k → FinalTriesAre (window_tries s h at.shard) (d ∷ ds) → window_tries s h at.shard v ≡ t
tried_final s h at m (Try own (Some u) number) ds places v t k is are =
    (let window : u ≡ v = cc in let count : number ≡ t = cc in ap (window_tries s h at.shard) (sym window) ∙ are.0 ∙ count)
tried_final s h at m (Try own None number) ds places v t k is are = cc
tried_final s h at m (Success own state) ds places v t k is are = cc
tried_final s h at m (GiveUp own) ds places v t k is are = cc
tried_final s h at m (Close u) ds places v t k is are = cc

abbrev said_final : Setting → List Said → List Entry → ℕ → ℕ → ℕ
said_final s old h n w = capped_tries (unwrap_or (window_tries_said (filter_map (entry_said s) h ++ old) n w) 0)

abbrev AreWindowsFound : Setting → List Said → Type 0
AreWindowsFound s old = (n w : ℕ) → unwrap_or (window_tries_said old n w) 0 ≡ found_window_tries s n w

final_ended : (s : Setting) (old : List Said) (h : List Entry) (at : LaneId) (reply : Reply) (m n w : ℕ) → HasStreamFields s.config → Legal s (Ended at reply m ∷ h) → AreWindowsFound s old → IsNear (said_final s old h n w) (window_tries s h n w) → IsNear (said_final s old h n w) (window_tries s (Ended at reply m ∷ h) n w)
final_ended s old h at reply m n w fields legal found before =
    elim (cases_Bool ((at.shard == n) && counts_in_final_call s n (last_call h at) w (window_tries_sum s h n w) reply)) [
      | inr not ↦ rw not before
      | inl counted ↦ (
          let shard : at.shard ≡ n = eqb-true at.shard n (and_parts (at.shard == n) (counts_in_final_call s n (last_call h at) w (window_tries_sum s h n w) reply) counted).0 in
          let same : said_final s old h n w ≡ window_tries s h n w = final_tries_stand s old h fields legal.0 found n w
          (λ lane own member.
          let low : lane.lane < s.config.factor = elim (owes_low s h legal.0 lane) [ inl none ↦ absurd (In-none w (subst (λ ds. In (final_tries ds) w) none member)) | inr low ↦ low ] in
          let lanes : at ≡ lane = lanes_alone s at lane fields ((final_tries_owed s h fields legal.0).windowed_tries lane w member) (running_low s h legal.0 at legal.1.1) low (shard ∙ sym own) in
          In-none w (subst (λ ds. In (final_tries ds) w) (quiet_lane s h at lane legal.0 legal.1.1 lanes) member)) in
          rw counted (near_more (said_final s old h n w) (window_tries_sum s h n w) same))
    ]

final_tried : (s : Setting) (old : List Said) (h : List Entry) (at : LaneId) (places : List ℕ) (v t m n w : ℕ) → HasStreamFields s.config → Legal s (Tried at places (Some v) t m ∷ h) → IsNear (said_final s old h n w) (window_tries s h n w) → IsNear (said_final s old (Tried at places (Some v) t m ∷ h) n w) (window_tries s h n w)
final_tried s old h at places v t m n w fields legal before =
    let said = λ (b : Bool). capped_tries (unwrap_or (if b then Some t else window_tries_said (filter_map (entry_said s) h ++ old) n w) 0) in
    elim (cases_Bool ((at.shard == n) && (v == w))) [
      | inl named ↦ (
          let parts = and_parts (at.shard == n) (v == w) named in
          let shard : at.shard ≡ n = eqb-true at.shard n parts.0 in
          let window : v ≡ w = eqb-true v w parts.1 in
          let first = first_debt s h at (Tried at places (Some v) t m) legal.1.1 in
          let are : FinalTriesAre (window_tries s h at.shard) (first.first ∷ drop 1 (debts s h at)) = subst (FinalTriesAre (window_tries s h at.shard)) first.parts ((final_tries_owed s h fields legal.0).numbers at) in
          let number : window_tries s h at.shard v ≡ t = tried_final s h at (last_moment h) first.first (drop 1 (debts s h at)) places v t m first.brings are in
          near_same (said_final s old (Tried at places (Some v) t m ∷ h) n w) (window_tries s h n w)
          (ap said named ∙ (ap capped_tries (sym number) ∙ (capped_twice (window_tries_sum s h at.shard v) ∙ (ap (λ k. window_tries s h k v) shard ∙ ap (window_tries s h n) window)))))
      | inr other ↦ subst (λ k. IsNear k (window_tries s h n w)) (sym (ap said other)) before
    ]

final_closed : (s : Setting) (old : List Said) (h : List Entry) (at : LaneId) (v m n w : ℕ) → IsNear (said_final s old h n w) (window_tries s h n w) → IsNear (said_final s old (Closed at v m ∷ h) n w) (window_tries s (Closed at v m ∷ h) n w)
final_closed s old h at v m n w before =
    elim (cases_Bool ((at.shard == n) && (v == w))) [
      | inl named ↦ rw named (near_same (capped_tries 0) (capped_tries 0) refl)
      | inr other ↦ rw other before
    ]

near_final : (s : Setting) (old : List Said) (h : List Entry) → HasStreamFields s.config → Legal s h → AreWindowsFound s old → (n w : ℕ) → IsNear (said_final s old h n w) (window_tries s h n w)
near_final s old [] fields legal found n w = near_same (said_final s old [] n w) (window_tries s [] n w) (ap capped_tries (found n w))
near_final s old (Came k first count m ∷ h) fields legal found n w = near_final s old h fields legal.0 found n w
near_final s old (Began at places c m ∷ h) fields legal found n w = near_final s old h fields legal.0 found n w
near_final s old (Ended at reply m ∷ h) fields legal found n w = final_ended s old h at reply m n w fields legal found (near_final s old h fields legal.0 found n w)
near_final s old (Gave by k places f line state m ∷ h) fields legal found n w = near_final s old h fields legal.0 found n w
near_final s old (Tried at places None t m ∷ h) fields legal found n w = near_final s old h fields legal.0 found n w
near_final s old (Tried at places (Some v) t m ∷ h) fields legal found n w = final_tried s old h at places v t m n w fields legal (near_final s old h fields legal.0 found n w)
near_final s old (Closed at v m ∷ h) fields legal found n w = final_closed s old h at v m n w (near_final s old h fields legal.0 found n w)
near_final s old (Replayed k places m ∷ h) fields legal found n w = absurd legal.1.1
near_final s old (Shut m ∷ h) fields legal found n w = near_final s old h fields legal.0 found n w

-- what is owed, by its debts

no_try : (ds : List Debt) (i : ℕ) → list_any (is_try_of i) ds ≡ false → In (try_places ds) i → ⊥
no_try [] i none member = In-none i member
no_try (Try places None k ∷ ds) i none member =
    let parts = or_parts (holds places i) (list_any (is_try_of i) ds) none in
    both_ways (holds places i || holds (try_places ds) i) (or_false (holds places i) (holds (try_places ds) i) parts.0 (not_in (holds (try_places ds) i) (λ inside. no_try ds i parts.1 inside)))
    (sym (list_any-append (λ p. p == i) places (try_places ds)) ∙ member)
  where
    or_false : (a b : Bool) → a ≡ false → b ≡ false → (a || b) ≡ false
    or_false a b first second = rw (first, second) refl

    not_in : (b : Bool) → (b ≡ true → ⊥) → b ≡ false
    not_in true never = absurd (never refl)
    not_in false never = refl
no_try (Try places (Some w) k ∷ ds) i none member = no_try ds i none member
no_try (Success places state ∷ ds) i none member = no_try ds i none member
no_try (GiveUp places ∷ ds) i none member = no_try ds i none member
no_try (Close w ∷ ds) i none member = no_try ds i none member

no_final : (ds : List Debt) (w : ℕ) → list_any (is_final_try_of w) ds ≡ false → In (final_tries ds) w → ⊥
no_final [] w none member = In-none w member
no_final (Try places None k ∷ ds) w none member = no_final ds w none member
no_final (Try places (Some v) k ∷ ds) w none member =
    let parts = or_parts (v == w) (list_any (is_final_try_of w) ds) none in
    no_final ds w parts.1 (rest_in (v == w) (holds (final_tries ds) w) parts.0 member)
  where
    rest_in : (a b : Bool) → a ≡ false → (a || b) ≡ true → b ≡ true
    rest_in a b out either = rw out at either
no_final (Success places state ∷ ds) w none member = no_final ds w none member
no_final (GiveUp places ∷ ds) w none member = no_final ds w none member
no_final (Close v ∷ ds) w none member = no_final ds w none member

-- what an opened setting found

tries_found : (s : Setting) (content : List (List ℕ)) → IsOpenedOver s content → (n i : ℕ) → found_tries s n i ≡ number_said (tries_said (history (reverse content)) n i)
tries_found s content is n i =
    ap (λ fs. unwrap_or (option_map (λ (f : FoundTries). f.tries) (find (λ (f : FoundTries). (f.shard == n) && (f.place == i)) fs)) 0) is.found.tries
    ∙ alike (tries_told is.told n i) ∙ ap number_said (is.tells.tries n i)
  where
    alike : (o : Option FoundTries) → unwrap_or (option_map (λ (f : FoundTries). f.tries) o) 0 ≡ number_said (option_map tries_of_found o)
    alike None = refl
    alike (Some f) = refl

window_tries_found : (s : Setting) (content : List (List ℕ)) → IsOpenedOver s content → (n w : ℕ) → found_window_tries s n w ≡ unwrap_or (window_tries_said (history (reverse content)) n w) 0
window_tries_found s content is n w =
    ap (λ fs. unwrap_or (option_map (λ (f : FoundWindowTries). f.tries) (find (λ (f : FoundWindowTries). (f.shard == n) && (f.window == w)) fs)) 0) is.found.window_tries
    ∙ ap (λ o. unwrap_or o 0) (is.tells.window_tries n w)

-- the law

module _ (s next : Setting) (h : List Entry) (old : List (List ℕ)) (fields : HasStreamFields s.config) (legal : Legal s h) (may : AllMayBeSaid s h) (was : IsOpenedOver s old) (is : IsOpenedOver next (content_after s h old)) where
  said : history (reverse (content_after s h old)) ≡ filter_map (entry_said s) h ++ history (reverse old)
  said = content_said s h old may

  found : (n i : ℕ) → number_said (tries_said (history (reverse old)) n i) ≡ found_tries s n i
  found n i = sym (tries_found s old was n i)

  windows_found : (n w : ℕ) → unwrap_or (window_tries_said (history (reverse old)) n w) 0 ≡ found_window_tries s n w
  windows_found n w = sym (window_tries_found s old was n w)

  next_finds : (n i : ℕ) → capped_tries (found_tries next n i) ≡ said_tries s (history (reverse old)) h n i
  next_finds n i = ap capped_tries (tries_found next (content_after s h old) is n i ∙ ap (λ g. number_said (tries_said g n i)) said)

  next_finds_windows : (n w : ℕ) → capped_tries (found_window_tries next n w) ≡ said_final s (history (reverse old)) h n w
  next_finds_windows n w = ap capped_tries (window_tries_found next (content_after s h old) is n w ∙ ap (λ g. unwrap_or (window_tries_said g n w) 0) said)

  finds : (n i : ℕ) → lacks_fate s h n i ≡ true → FindsTries s h next n i
  finds n i lacks =
      let by = subst (λ k. IsNear k (tries s h n i)) (sym (next_finds n i)) (near s (history (reverse old)) h legal found n i lacks) in
      record {
        exact = λ none. next_finds n i ∙ tries_stand s (history (reverse old)) h legal found n i lacks (λ lane shard member. no_try (debts s h lane) i (none lane shard) member);
        no_more = by.no_more;
        one_less = by.one_less;
      }

  finds_windows : (n w : ℕ) → FindsWindowTries s h next n w
  finds_windows n w =
      let by = subst (λ k. IsNear k (window_tries s h n w)) (sym (next_finds_windows n w)) (near_final s (history (reverse old)) h fields legal windows_found n w) in
      record {
        exact = λ none. next_finds_windows n w ∙ final_tries_stand s (history (reverse old)) h fields legal windows_found n w (λ lane shard member. no_final (debts s h lane) w (none lane shard) member);
        no_more = by.no_more;
        one_less = by.one_less;
      }

  pub tries_go_on : TriesGoOn s h next
  tries_go_on = record { records = finds; windows = finds_windows }
