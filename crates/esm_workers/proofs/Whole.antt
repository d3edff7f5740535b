-- What the closed book tells of the hands that shared it.
use Rattle.std.proofs.Common.{◌≡◌, ℕ, zero, suc, ◌+◌, ◌<◌, ◌≤◌, ◌⊎◌, Bool, true, false, List, [], ◌∷◌, ◌++◌, length, get_or, refl, sym, ap, ◌∙◌, subst, arith, inl, inr, ⊎_elim, Option}
use Rattle.std.proofs.lemmas.Bool.{cases_lt}
use Rattle.std.proofs.lemmas.List.{get_or_past}
use Rattle.esm_io.specs.Told.{Grows}
use Rattle.esm_model.specs.declared.book.Change.{Change}
use Rattle.esm_model.specs.declared.book.Job.{Job}
use Rattle.esm_model.specs.declared.setup.Setup.{Setup}
use Rattle.esm_model.specs.declared.setup.Told.{Told}
use Rattle.esm_model.specs.Books.{entries_told}
use Rattle.esm_model.specs.Entries.{is_shut}
use Rattle.esm_model.specs.Kept.{entries_of, IsLegal}
use Rattle.esm_model.specs.GoingOn.{OthersFollow, OwnFollowShut, AllGiven}
use Rattle.esm_turn.specs.Seats.{SeatView, TurnView, begun_seat}
use Rattle.esm_workers.specs.Seated.{IsSeated}
use Rattle.esm_workers.specs.Working.{HasOneMore}
use Rattle.esm_workers.proofs.Later.{follow_append, follow_other}
use Rattle.esm_workers.specs.declared.hand.Hand.{Hand}
use Rattle.esm_workers.specs.Shared.{HaveCalled}
use Rattle.esm_workers.specs.Hands.{Meanings, AreReady, HasBegun, HasCalled, HaveWorked, AreLong, GoesOnFrom, TellsOf}
use Rattle.esm_workers.specs.Packs.{seats_of, callers_of}
use Rattle.esm_workers.proofs.Going.{grows_by_none}
use Rattle.esm_workers.proofs.Packed.{some_of, seats_length, callers_length, seat_at, caller_at}
use Rattle.esm_workers.proofs.Closed.{IsClosed, AreSeated, begun_seated, on, change_of_first, none_of, moments}

-- what batchers know stays, and before the first entry they have not called
pub record Stays {F : Type 0} (m : Meanings F) : Type 0 where
  pub no_calls : (s : Setup) (sends : List ℕ → List ℕ) (k : ℕ) → m.calls s sends [] k ≡ []
  pub at_rest : (s : Setup) (k : ℕ) → m.rests s [] k
  pub calls : (s : Setup) (sends : List ℕ → List ℕ) (h es : List Told) (k : ℕ) → OthersFollow m.author m.may_follow s (k + 1) h es → m.calls s sends (h ++ es) k ≡ m.calls s sends h k
  pub rests : (s : Setup) (h es : List Told) (k : ℕ) → OthersFollow m.author m.may_follow s (k + 1) h es → m.rests s h k → m.rests s (h ++ es) k
  pub runs : (s : Setup) (h es : List Told) (k : ℕ) (job : Job) → OthersFollow m.author m.may_follow s (k + 1) h es → m.runs s h k job → m.runs s (h ++ es) k job
  pub finished : (s : Setup) (h es : List Told) (k : ℕ) → OthersFollow m.author m.may_follow s (k + 1) h es → m.finished s h k → m.finished s (h ++ es) k
  pub spent : (s : Setup) (h es : List Told) (n : ℕ) → OthersFollow m.author m.may_follow s n h es → m.spent s h → m.spent s (h ++ es)

module _ {F : Type 0} (m : Meanings F) (stays : Stays m) (setup : Setup) where
  -- of a batcher that has added nothing
  pub idle_called : (h : List Told) (k : ℕ) (f : F) (short : Bool) → OthersFollow m.author m.may_follow setup (k + 1) [] h → HasCalled m setup k h short f f
  idle_called h k f short o =
      let log = m.outside.log f in
      let none : m.calls setup m.outside.sends h k ≡ [] = stays.calls setup m.outside.sends [] h k o ∙ stays.no_calls setup m.outside.sends k in
      let grew : Grows log log (m.calls setup m.outside.sends h k) = subst (Grows log log) (sym none) (grows_by_none log) in
      record { rest = λ _. stays.rests setup [] h k o (stays.at_rest setup k); called = λ _. grew; logged = inl grew }

  -- what a batcher did, told of the whole history
  pub called_on : (k : ℕ) (seen h : List Told) (short : Bool) (f g : F) → GoesOnFrom m.author m.may_follow setup (k + 1) seen h → HasCalled m setup k seen short f g → HasCalled m setup k h short f g
  called_on k seen h short f g on did =
      let sends = m.outside.sends in
      let log = m.outside.log in
      let same : m.calls setup sends seen k ≡ m.calls setup sends (seen ++ on.rest) k = sym (stays.calls setup sends seen on.rest k on.others) in
      let grown : Grows (log f) (log g) (m.calls setup sends seen k) → Grows (log f) (log g) (m.calls setup sends (seen ++ on.rest) k) = subst (Grows (log f) (log g)) same in
      let more : HasOneMore (m.runs setup seen k) setup sends (m.calls setup sends seen k) (log f) (log g) → HasOneMore (m.runs setup (seen ++ on.rest) k) setup sends (m.calls setup sends (seen ++ on.rest) k) (log f) (log g)
      = λ o. subst (λ cs. HasOneMore (m.runs setup (seen ++ on.rest) k) setup sends cs (log f) (log g)) same (record { job = o.job; running = stays.runs setup seen on.rest k o.job on.others o.running; reply = o.reply; logged = o.logged }) in
      subst (λ l. HasCalled m setup k l short f g) (sym on.whole) (record {
        rest = λ long. stays.rests setup seen on.rest k on.others (did.rest long);
        called = λ long. grown (did.called long);
        logged = ⊎_elim (λ l. inl (grown l)) (λ l. inr (more l)) did.logged;
      })

  -- where no batcher began
  pub none_tells : (batchers : ℕ) (h : List Told) (mark short : Bool) (fs : List F) → IsLegal (m.may_follow setup) h → AllGiven m.outside.gave [] h
      → ((n : ℕ) → 0 < n → entries_of (m.author setup) n h ≡ []) → (short ≡ true) ⊎ (mark ≡ true) → TellsOf m setup batchers h mark short fs fs
  none_tells batchers h mark short fs legal given unused why =
      let others : (k : ℕ) → OthersFollow m.author m.may_follow setup (k + 1) [] h = λ k. record { legal = legal; others = unused (k + 1) (omega arith) } in
      record {
        legal = legal;
        moments = given;
        called = record {
          as_many = refl;
          rest = λ _ k. stays.rests setup [] h k (others k) (stays.at_rest setup k);
          called = λ long k d lt. (idle_called h k (get_or fs k d) short (others k)).called long;
          logged = λ k d lt. (idle_called h k (get_or fs k d) short (others k)).logged;
          untouched = λ k d le. refl;
          no_calls = λ k le. stays.calls setup m.outside.sends [] h k (others k) ∙ stays.no_calls setup m.outside.sends k;
        };
        ended = λ long up k lt. ⊎_elim (λ (s : short ≡ true). absurd (let both : true ≡ false = sym s ∙ long in cc)) (λ (s : mark ≡ true). absurd (let both : true ≡ false = sym s ∙ up in cc)) why;
      }

-- the same of a run of which another hand may have been short
pub tells_short : {F : Type 0} (m : Meanings F) (setup : Setup) (batchers : ℕ) (h : List Told) (mark one all : Bool) (fs gs : List F) → (all ≡ false → one ≡ false) → TellsOf m setup batchers h mark one fs gs → TellsOf m setup batchers h mark all fs gs
tells_short m setup batchers h mark one all fs gs less tells = record {
  legal = tells.legal;
  moments = tells.moments;
  called = record {
    as_many = tells.called.as_many;
    rest = λ long. tells.called.rest (less long);
    called = λ long. tells.called.called (less long);
    logged = tells.called.logged;
    untouched = tells.called.untouched;
    no_calls = tells.called.no_calls;
  };
  ended = λ long. tells.ended (less long);
}

module _ {T F : Type 0} (m : Meanings F) (t : TurnView) (seen : List Told) (told : Option Change) (s : SeatView) (hs : List (Hand T F)) (begun : HasBegun m t seen told (s ∷ seats_of hs)) where
  abbrev Seated : ℕ → SeatView → Type 0
  Seated n v = IsSeated m.author m.may_follow m.outside.gave t n v

  hand_is : (k : ℕ) (d : Hand T F) → k < length hs → (get_or hs k d).seat ≡ begun_seat m.author seen told t (suc k)
  hand_is k d lt = sym (seat_at hs k d.seat d lt) ∙ begun.begun.each (suc k) d.seat (let l = seats_length hs in omega arith)

  pub first_is : s ≡ begun_seat m.author seen told t 0
  first_is = begun.begun.each 0 s (omega arith)

  pub first_seated : Seated 0 s
  first_seated = subst (Seated 0) (sym first_is) (begun_seated m.author m.may_follow m.outside.gave t seen told 0 begun.legal begun.given)

  pub ready : AreReady m t hs
  ready k d lt =
      let next : suc k ≡ k + 1 = omega arith in
      let is = hand_is k d lt in
      record {
        seated = subst (λ (z : ℕ × SeatView). Seated z.0 z.1) (λ i. (next i, sym is i)) (begun_seated m.author m.may_follow m.outside.gave t seen told (suc k) begun.legal begun.given);
        unused = ap (λ (v : SeatView). v.mine) is ∙ begun.unused (suc k) (omega arith);
      }

  module _ (count : ℕ) (after : List (Hand T F)) (have : HaveWorked m t count hs after) (first : SeatView) (first_seat : Seated 0 first) where
    in_before : (k : ℕ) → k < length after → k < length hs
    in_before k lt = let l = have.as_many in omega arith

    hand_seated : (k : ℕ) (d : Hand T F) → k < length after → Seated (k + 1) (get_or after k d).seat
    hand_seated k d lt =
        ⊎_elim (λ (l : k < count). (have.worked k d l).seated)
        (λ (l : count ≤ k). subst (λ (h : Hand T F). Seated (k + 1) h.seat) (sym (have.idle k d l)) (ready k d (in_before k lt)).seated)
        (cases_lt k count)

    pub seats : AreSeated m.author m.may_follow m.outside.gave t (first ∷ seats_of after)
    seats zero v lt = first_seat
    seats (suc k) v lt =
        let inside : k < length after = (let l = seats_length after in omega arith) in
        let e : Hand T F = some_of after (omega arith) in
        let next : k + 1 ≡ suc k = omega arith in
        subst (λ (z : ℕ × SeatView). Seated z.0 z.1) (λ i. (next i, sym (seat_at after k v e inside) i)) (hand_seated k e inside)

    pub seats_count : length (first ∷ seats_of after) ≡ t.seats
    seats_count = let a = seats_length after in let b = seats_length hs in let c = have.as_many in let d = begun.begun.count in omega arith

    module _ (h : List Told) (mark : Bool) (change : Option Change) (closed : IsClosed m.author m.may_follow t (first ∷ seats_of after) h mark change) where
      pub on_first : GoesOnFrom m.author m.may_follow t.setup 0 first.seen h
      on_first = on m.author m.may_follow m.outside.gave t (first ∷ seats_of after) seats_count seats h mark change closed 0 first (omega arith)

      -- the change is that which the first seat saw last
      pub change_is : change ≡ first.change
      change_is = change_of_first m.author m.may_follow m.outside.gave t (first ∷ seats_of after) seats_count seats h mark change closed first (omega arith)

      on_hand : (k : ℕ) (d : Hand T F) → k < length after → GoesOnFrom m.author m.may_follow t.setup (k + 1) (get_or after k d).seat.seen h
      on_hand k d lt =
          let next : suc k ≡ k + 1 = omega arith in
          let o = on m.author m.may_follow m.outside.gave t (first ∷ seats_of after) seats_count seats h mark change closed (suc k) d.seat (let l = seats_length after in omega arith) in
          subst (λ (z : ℕ × SeatView). GoesOnFrom m.author m.may_follow t.setup z.0 z.1.seen h) (λ i. (next i, seat_at after k d.seat d lt i)) o

      -- a batcher that did not begin added nothing
      idle_none : (k : ℕ) → count ≤ k → OthersFollow m.author m.may_follow t.setup (k + 1) [] h
      idle_none k le =
          let next : suc k ≡ k + 1 = omega arith in
          record {
            legal = closed.legal;
            others = subst (λ (n : ℕ). entries_of (m.author t.setup) n h ≡ []) next
                (none_of m.author m.may_follow m.outside.gave t (first ∷ seats_of after) seats_count seats h mark change closed (suc k) (λ v lt.
                let inside : k < length after = (let l = seats_length after in omega arith) in
                let e : Hand T F = some_of after (omega arith) in
                ap (λ (v : SeatView). v.mine) (seat_at after k v e inside) ∙ (ap (λ (h : Hand T F). h.seat.mine) (have.idle k e le) ∙ (ready k e (in_before k inside)).unused)));
          }

      all_moments : AllGiven m.outside.gave [] h
      all_moments = moments m.author m.may_follow m.outside.gave t (first ∷ seats_of after) seats_count seats h mark change closed

      module _ (few : count ≤ length hs) where
        in_after : (k : ℕ) → k < count → k < length after
        in_after k lt = let l = have.as_many in omega arith

        -- what each batcher added comes after the input's end, where that stood in what the seats had seen first
        pub later_whole : is_shut (entries_told seen) ≡ true → (k : ℕ) → OwnFollowShut (m.author t.setup) (k + 1) [] h
        later_whole shut k =
            ⊎_elim (λ (work : k < count).
            let inside : k < length after = in_after k work in
            let e : Hand T F = some_of after (omega arith) in
            let v : SeatView = (get_or after k e).seat in
            let o = on_hand k e inside in
            let began : (get_or hs k e).seat.seen ≡ seen = ap (λ (v : SeatView). v.seen) (hand_is k e (in_before k inside)) in
            let own : OwnFollowShut (m.author t.setup) (k + 1) [] v.seen = (have.worked k e work).later (ap (λ l. is_shut (entries_told l)) began ∙ shut) in
            subst (OwnFollowShut (m.author t.setup) (k + 1) []) (sym o.whole)
            (follow_append (m.author t.setup) (k + 1) [] v.seen o.rest own (follow_other (m.author t.setup) (k + 1) v.seen o.rest o.others.others)))
            (λ (idle : count ≤ k). follow_other (m.author t.setup) (k + 1) [] h (idle_none k idle).others)
            (cases_lt k count)

        module _ (stays : Stays m) where
          -- why a batcher that began came to its end
          ended_at : AreLong after → mark ≡ false → (k : ℕ) → k < count → m.finished t.setup h k ⊎ m.spent t.setup h
          ended_at long up k lt =
              let inside : k < length after = in_after k lt in
              let e : Hand T F = some_of after (omega arith) in
              let v : SeatView = (get_or after k e).seat in
              let o = on_hand k e inside in
              let back : m.finished t.setup v.seen k → m.finished t.setup h k = λ f. subst (λ l. m.finished t.setup l k) (sym o.whole) (stays.finished t.setup v.seen o.rest k o.others f) in
              let over : m.spent t.setup v.seen → m.spent t.setup h = λ f. subst (λ l. m.spent t.setup l) (sym o.whole) (stays.spent t.setup v.seen o.rest (k + 1) o.others f) in
              let down : v.mark ≡ true → mark ≡ true
              = subst (λ (z : SeatView). z.mark ≡ true → mark ≡ true) (seat_at after k v e inside) (closed.marked (suc k) v (let l = seats_length after in omega arith)) in
              ⊎_elim (λ (f : m.finished t.setup v.seen k). inl (back f))
              (λ (r : m.spent t.setup v.seen ⊎ (v.mark ≡ true)). ⊎_elim (λ (f : m.spent t.setup v.seen). inr (over f)) (λ (f : v.mark ≡ true). absurd (let both : true ≡ false = sym (down f) ∙ up in cc)) r)
              ((have.worked k e lt).ended (long k e inside))

          called_at : (k : ℕ) (d : Hand T F) → k < length after → HasCalled m t.setup k h (get_or after k d).short (get_or hs k d).caller (get_or after k d).caller
          called_at k d lt =
              let b : Hand T F = get_or hs k d in
              let a : Hand T F = get_or after k d in
              ⊎_elim (λ (l : k < count). called_on m stays t.setup k a.seat.seen h a.short b.caller a.caller (on_hand k d lt) (have.worked k d l).did)
              (λ (l : count ≤ k). subst (λ (f : F). HasCalled m t.setup k h a.short b.caller f) (sym (ap (λ (z : Hand T F). z.caller) (have.idle k d l))) (idle_called m stays t.setup h k b.caller a.short (idle_none k l)))
              (cases_lt k count)

          called_whole : (short : Bool) → (short ≡ false → AreLong after) → HaveCalled m.calls m.rests m.runs m.outside t.setup h short count (callers_of hs) (callers_of after)
          called_whole short long =
              let as_many : length (callers_of after) ≡ length (callers_of hs) = (let a = callers_length after in let b = callers_length hs in let c = have.as_many in omega arith) in
              let inside : (k : ℕ) → k < length (callers_of hs) → k < length after = λ k lt. (let b = callers_length hs in let c = have.as_many in omega arith) in
              let each : (k : ℕ) (f : F) (lt : k < length (callers_of hs)) → (e : Hand T F) → HasCalled m t.setup k h (get_or after k e).short (get_or (callers_of hs) k f) (get_or (callers_of after) k f)
              = λ k f lt e. subst (λ (z : F × F). HasCalled m t.setup k h (get_or after k e).short z.0 z.1)
              (λ i. (sym (caller_at hs k f e (in_before k (inside k lt))) i, sym (caller_at after k f e (inside k lt)) i)) (called_at k e (inside k lt)) in
              let one : (k : ℕ) → k < length (callers_of hs) → Hand T F = λ k lt. some_of after (let l = inside k lt in omega arith) in
              record {
                as_many = as_many;
                rest = λ l k.
                    ⊎_elim (λ (lt : k < length after). let e : Hand T F = some_of after (omega arith) in (called_at k e lt).rest (long l k e lt))
                    (λ (le : length after ≤ k). stays.rests t.setup [] h k (idle_none k (let c = have.as_many in omega arith)) (stays.at_rest t.setup k))
                    (cases_lt k (length after));
                called = λ l k f lt. let e : Hand T F = one k lt in (each k f lt e).called (long l k e (inside k lt));
                logged = λ k f lt. (each k f lt (one k lt)).logged;
                untouched = λ k f le.
                    ⊎_elim (λ (lt : k < length after).
                    let e : Hand T F = some_of after (omega arith) in
                    caller_at after k f e lt ∙ (ap (λ (z : Hand T F). z.caller) (have.idle k e le) ∙ sym (caller_at hs k f e (in_before k lt))))
                    (λ (ge : length after ≤ k). let a = callers_length after in get_or_past (callers_of after) k f (omega arith) ∙ sym (get_or_past (callers_of hs) k f (omega arith)))
                    (cases_lt k (length after));
                no_calls = λ k le. stays.calls t.setup m.outside.sends [] h k (idle_none k le) ∙ stays.no_calls t.setup m.outside.sends k;
              }

          pub tells_whole : (short : Bool) → (short ≡ false → AreLong after) → TellsOf m t.setup count h mark short (callers_of hs) (callers_of after)
          tells_whole short long = record {
            legal = closed.legal;
            moments = all_moments;
            called = called_whole short long;
            ended = λ l. ended_at (long l);
          }
