-- The entries that the end of a call calls for begin and end no call, and bring no record. Only this crate's tests cite this.
use Rattle.std.proofs.Common.{◌≡◌, ℕ, List, [], ◌∷◌, ◌++◌, refl, sym, ap, ◌∙◌, subst, append_assoc}
use Rattle.std.specs.Prelude.{reverse, map}
use Rattle.std.proofs.lemmas.List.{reverse-append}
use Rattle.esm_model.specs.declared.lane.LaneId.{LaneId}
use Rattle.esm_model.specs.declared.entry.Entry.{Entry}
use Rattle.esm_model.specs.Setting.{Setting}
use Rattle.esm_model.specs.Entries.{moment_of, last_moment, is_running, is_shut, came_count, shards_that_came}
use Rattle.esm_model.specs.Calls.{calls}
use Rattle.esm_model.specs.Owed.{Debt, Success, GiveUp, Try, Close, debt_entry}

-- the one history says of calls and of records that came what the other says
pub record Same (s : Setting) (sends : List ℕ → List ℕ) (h more : List Entry) : Type 0 where
  pub running : (lane : LaneId) → is_running more lane ≡ is_running h lane
  pub came : (n : ℕ) → came_count more n ≡ came_count h n
  pub shards : shards_that_came more ≡ shards_that_came h
  pub shut : is_shut more ≡ is_shut h
  pub calls : (k : ℕ) → calls s sends more k ≡ calls s sends h k
  pub last : last_moment more ≡ last_moment h

same_debt : (s at : Setting) (sends : List ℕ → List ℕ) (x : Entry) (h before : List Entry) (lane : LaneId) (m : ℕ) (d : Debt) → m ≡ moment_of x → Same s sends (x ∷ h) (debt_entry at before lane m d ∷ x ∷ h)
same_debt s at sends x h before lane m (Success places state) is = record { running = λ l. refl; came = λ n. refl; shards = refl; shut = refl; calls = λ k. refl; last = is }
same_debt s at sends x h before lane m (GiveUp places) is = record { running = λ l. refl; came = λ n. refl; shards = refl; shut = refl; calls = λ k. refl; last = is }
same_debt s at sends x h before lane m (Try places closing tries) is = record { running = λ l. refl; came = λ n. refl; shards = refl; shut = refl; calls = λ k. refl; last = is }
same_debt s at sends x h before lane m (Close window) is = record { running = λ l. refl; came = λ n. refl; shards = refl; shut = refl; calls = λ k. refl; last = is }

same_then : (s : Setting) (sends : List ℕ → List ℕ) (a b c : List Entry) → Same s sends a b → Same s sends b c → Same s sends a c
same_then s sends a b c x y = record {
  running = λ l. y.running l ∙ x.running l;
  came = λ n. y.came n ∙ x.came n;
  shards = y.shards ∙ x.shards;
  shut = y.shut ∙ x.shut;
  calls = λ k. y.calls k ∙ x.calls k;
  last = y.last ∙ x.last;
}

pub one_more : (e : Entry) (es h : List Entry) → reverse es ++ e ∷ h ≡ reverse (e ∷ es) ++ h
one_more e es h = sym (ap (λ xs. xs ++ h) (reverse-append (e ∷ []) es) ∙ append_assoc (reverse es) (e ∷ []) h)

-- the first of the entries that the end calls for
pub same_front : (s at : Setting) (sends : List ℕ → List ℕ) (x : Entry) (h before : List Entry) (lane : LaneId) (m : ℕ) (front rest : List Entry) (ds : List Debt) → m ≡ moment_of x
    → front ++ rest ≡ map (debt_entry at before lane m) ds → Same s sends (x ∷ h) (reverse front ++ x ∷ h)
same_front s at sends x h before lane m [] rest ds is split = record { running = λ l. refl; came = λ n. refl; shards = refl; shut = refl; calls = λ k. refl; last = refl }
same_front s at sends x h before lane m (e ∷ es) rest [] is split = absurd (cc)
same_front s at sends x h before lane m (e ∷ es) rest (d ∷ ds) is split =
    let e_is : debt_entry at before lane m d ≡ e = cc in
    let tail : es ++ rest ≡ map (debt_entry at before lane m) ds = cc in
    let first : Same s sends (x ∷ h) (e ∷ x ∷ h) = subst (λ (y : Entry). Same s sends (x ∷ h) (y ∷ x ∷ h)) e_is (same_debt s at sends x h before lane m d is) in
    let more = same_front s at sends e (x ∷ h) before lane m es rest ds (is ∙ sym first.last) tail in
    subst (Same s sends (x ∷ h)) (one_more e es (x ∷ h)) (same_then s sends (x ∷ h) (e ∷ x ∷ h) (reverse es ++ e ∷ x ∷ h) first more)
