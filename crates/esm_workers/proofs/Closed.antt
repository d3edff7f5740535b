-- What a closed turn tells of its seats.
use Rattle.std.proofs.Common.{◌≡◌, ℕ, zero, suc, ◌<◌, ◌≤◌, Bool, true, List, [], ◌∷◌, length, get_or, set, refl, sym, ap, ◌∙◌, subst, arith, ⊎_elim, All, Option, None}
use Rattle.std.proofs.lemmas.Bool.{cases_lt}
use mathlib.Core.List.{IsPrefix}
use Rattle.esm_model.specs.declared.book.Change.{Change}
use Rattle.esm_model.specs.declared.setup.Setup.{Setup}
use Rattle.esm_model.specs.declared.setup.Told.{Told}
use Rattle.esm_model.specs.Kept.{entries_of, IsLegal}
use Rattle.esm_model.specs.GoingOn.{OwnGiven, AllGiven}
use Rattle.esm_turn.specs.Seats.{SeatView, TurnView, AreAllSeats, AreBegun, begun_seat}
use Rattle.esm_workers.specs.Seated.{IsSeated}
use Rattle.esm_workers.specs.Hands.{GoesOnFrom}
use Rattle.esm_workers.proofs.Going.{rest_none, none_given, own_append, all_given, own_given}
use Rattle.esm_workers.proofs.Packed.{some_of}

module _ (author : Setup → List Told → Told → ℕ) (may_follow : Setup → List Told → Told → Type 0) (t : TurnView) where
  -- the turn was closed with these seats
  pub record IsClosed (seats : List SeatView) (h : List Told) (mark : Bool) (change : Option Change) : Type 0 where
    pub legal : IsLegal (may_follow t.setup) h
    pub begins : All (λ s. IsPrefix s.seen h) seats
    pub mine : All (λ s. entries_of (author t.setup) s.number h ≡ s.mine) seats
    pub others : (n : ℕ) → t.seats ≤ n → entries_of (author t.setup) n h ≡ []
    pub marked : All (λ s. s.mark ≡ true → mark ≡ true) seats
    pub told : All (λ s. s.number ≡ 0 → change ≡ s.change) seats

module _ (author : Setup → List Told → Told → ℕ) (may_follow : Setup → List Told → Told → Type 0) (gave : ℕ → Bool) (t : TurnView) where
  -- the seat n has taken no turn yet
  pub begun_seated : (h : List Told) (change : Option Change) (n : ℕ) → IsLegal (may_follow t.setup) h → AllGiven gave [] h → IsSeated author may_follow gave t n (begun_seat author h change t n)
  begun_seated h change n legal given = record {
    free = record { at_is = refl; setup_is = refl; number_is = refl; free = refl };
    whole = refl;
    legal = legal;
    moments = own_given (author t.setup) gave n [] h given;
  }

  -- each seat is idle
  abbrev pub AreSeated : List SeatView → Type 0
  AreSeated ss = (k : ℕ) (s : SeatView) → k < length ss → IsSeated author may_follow gave t k (get_or ss k s)

  module _ (ss : List SeatView) (count : length ss ≡ t.seats) (seated : AreSeated ss) where
    pub all_back : AreAllSeats t ss
    all_back = record { count = count; each = λ k s lt. (seated k s lt).free }

    module _ (h : List Told) (mark : Bool) (change : Option Change) (closed : IsClosed author may_follow t ss h mark change) where
      -- the entries of the seat's author are its own
      mine_at : (k : ℕ) (s : SeatView) → k < length ss → entries_of (author t.setup) k h ≡ (get_or ss k s).mine
      mine_at k s lt = ap (λ (i : ℕ). entries_of (author t.setup) i h) (sym (seated k s lt).free.number_is) ∙ closed.mine k s lt

      pub on : (k : ℕ) (s : SeatView) → k < length ss → GoesOnFrom author may_follow t.setup k (get_or ss k s).seen h
      on k s lt =
          let v : SeatView = get_or ss k s in
          let begins : IsPrefix v.seen h = closed.begins k s lt in
          record {
            rest = begins.0;
            whole = sym begins.1;
            others = record {
              legal = subst (IsLegal (may_follow t.setup)) (sym begins.1) closed.legal;
              others = rest_none (author t.setup) k h v.seen begins.0 v.mine (sym begins.1) (mine_at k s lt) (seated k s lt).whole;
            };
          }

      -- the change is that which the first seat saw last
      pub change_of_first : (s : SeatView) → 0 < length ss → change ≡ (get_or ss 0 s).change
      change_of_first s lt = closed.told 0 s lt (seated 0 s lt).free.number_is

      -- an author whose seat has added nothing
      pub none_of : (n : ℕ) → ((s : SeatView) → n < length ss → (get_or ss n s).mine ≡ []) → entries_of (author t.setup) n h ≡ []
      none_of n none =
          ⊎_elim (λ (l : n < length ss). let s : SeatView = some_of ss (omega arith) in mine_at n s l ∙ none s l)
          (λ (l : length ss ≤ n). closed.others n (let c = count in omega arith))
          (cases_lt n (length ss))

      own : (k : ℕ) (s : SeatView) → k < length ss → OwnGiven gave (author t.setup) k [] h
      own k s lt =
          let v : SeatView = get_or ss k s in
          let o = on k s lt in
          subst (OwnGiven gave (author t.setup) k []) (sym o.whole)
          (own_append (author t.setup) gave k [] v.seen o.rest (seated k s lt).moments (none_given (author t.setup) gave k v.seen o.rest o.others.others))

      pub moments : AllGiven gave [] h
      moments = all_given (author t.setup) gave [] h (λ n.
          ⊎_elim (λ (l : n < length ss). own n (some_of ss (omega arith)) l)
          (λ (l : length ss ≤ n). none_given (author t.setup) gave n [] h (closed.others n (let c = count in omega arith)))
          (cases_lt n (length ss)))

  -- a turn at which the first seat alone worked, over an empty history and no change
  pub alone : (ss : List SeatView) → AreBegun author [] None t ss → (first : SeatView) → IsSeated author may_follow gave t 0 first → AreSeated (set ss 0 first)
  alone [] begun first seated k d lt = absurd (omega arith)
  alone (s ∷ ss) begun first seated zero d lt = seated
  alone (s ∷ ss) begun first seated (suc k) d lt = subst (IsSeated author may_follow gave t (suc k)) (sym (begun.each (suc k) d lt)) (begun_seated [] None (suc k) tt tt)

  pub alone_mine : (ss : List SeatView) → AreBegun author [] None t ss → (first : SeatView) (n : ℕ) → 0 < n → (d : SeatView) → n < length (set ss 0 first) → (get_or (set ss 0 first) n d).mine ≡ []
  alone_mine [] begun first n pos d lt = absurd (omega arith)
  alone_mine (s ∷ ss) begun first zero pos d lt = absurd (omega arith)
  alone_mine (s ∷ ss) begun first (suc k) pos d lt = ap (λ (v : SeatView). v.mine) (begun.each (suc k) d lt)

pub first_of_set : {A : Type 0} (l : List A) (a d : A) → 0 < length l → get_or (set l 0 a) 0 d ≡ a
first_of_set [] a d lt = absurd (omega arith)
first_of_set (x ∷ xs) a d lt = refl
