-- What the reader's seat knows when it has taken the turn, and when it has given it back.
use Rattle.std.proofs.Common.{◌≡◌, ◌≢◌, ℕ, Bool, true, false, cond, eqb, List, [], ◌∷◌, ◌++◌, refl, sym, ap, ◌∙◌, subst, append_assoc, eq-eqb}
use Rattle.std.proofs.lemmas.List.{append-nil, append_cancel_left}
use Rattle.std.proofs.Math.Seq.{drop-length}
use mathlib.Core.List.{IsPrefix}
use Rattle.esm_model.specs.declared.setup.Setup.{Setup}
use Rattle.esm_model.specs.declared.setup.Told.{Told}
use Rattle.esm_model.specs.Kept.{Meaning, entries_after, entries_of, IsLegal, MayFollowAll, AllBy, added}
use Rattle.esm_model.proofs.Growing.{entries-append, none_other, own_after, may_append}
use Rattle.esm_model.specs.GoingOn.{GoesOn, OthersFollow, AllAt, OwnGiven}
use Rattle.esm_turn.specs.Seats.{TurnView, SeatView}
use Rattle.esm_workers.specs.Seated.{IsSeated}

not_picked : (b : Bool) (e : Told) (rest : List Told) → cond b (e ∷ rest) rest ≡ [] → (b ≡ false) × (rest ≡ [])
not_picked true e rest is = absurd (cc)
not_picked false e rest is = (refl, is)

module _ (gave : ℕ → Bool) (author : List Told → Told → ℕ) where
  given_append : (h xs ys : List Told) → OwnGiven gave author 0 h xs → OwnGiven gave author 0 (h ++ xs) ys → OwnGiven gave author 0 h (xs ++ ys)
  given_append h [] ys one two = subst (λ l. OwnGiven gave author 0 l ys) (append-nil h) two
  given_append h (x ∷ xs) ys one two =
      (one.0, given_append (h ++ x ∷ []) xs ys one.1 (subst (λ l. OwnGiven gave author 0 l ys) (sym (append_assoc h (x ∷ []) xs)) two))

  -- entries at a moment that was given
  given_at : (moment : ℕ) → gave moment ≡ true → (h es : List Told) → AllAt moment h es → OwnGiven gave author 0 h es
  given_at moment gives h [] at = tt
  given_at moment gives h (e ∷ es) at = (λ own. (moment, gives, at.0), given_at moment gives (h ++ e ∷ []) es at.1)

  -- entries of others alone
  given_other : (h es : List Told) → entries_after author 0 h es ≡ [] → OwnGiven gave author 0 h es
  given_other h [] none = tt
  given_other h (e ∷ es) none =
      let not = not_picked (eqb (author h e) 0) e (entries_after author 0 (h ++ e ∷ []) es) none in
      (λ own. absurd (let yes = eq-eqb (author h e) 0 own in let no = not.0 in cc), given_other (h ++ e ∷ []) es not.1)

module _ {T : Type 0} (m : Meaning T) (gave : ℕ → Bool) (t : TurnView) (s : SeatView) where
  -- a seat that has added nothing has seen what others wrote alone
  pub unused : IsSeated m.author m.may_follow gave t 0 s → s.mine ≡ [] → OthersFollow m.author m.may_follow t.setup 0 [] s.seen
  unused seated none = record { legal = seated.legal; others = sym seated.whole ∙ none }

  -- what the seat knows of the value x that it has taken
  pub record Found (x : T) : Type 0 where
    pub others : List Told
    pub is : m.history x ≡ s.seen ++ others
    pub follow : OthersFollow m.author m.may_follow t.setup 0 s.seen others
    pub setup : m.setup x ≡ t.setup
    pub mine : s.mine ≡ entries_of (m.author t.setup) 0 (m.history x)
    pub legal : IsLegal (m.may_follow t.setup) (m.history x)
    pub moments : OwnGiven gave (m.author t.setup) 0 [] (m.history x)
    pub change : m.change x ≡ s.change
    pub at_is : s.at ≡ t.at
    pub setup_is : s.setup ≡ t.setup
    pub number_is : s.number ≡ 0

  pub found : (x : T) → IsSeated m.author m.may_follow gave t 0 s → m.setup x ≡ s.setup → IsLegal (m.may_follow s.setup) (m.history x) → IsPrefix s.seen (m.history x)
      → entries_of (m.author s.setup) s.number (m.history x) ≡ s.mine → (s.number ≡ 0 → m.change x ≡ s.change) → Found x
  found x seated setup legal begins mine change =
      let h : List Told = m.history x in
      let author : List Told → Told → ℕ = m.author t.setup in
      let others : List Told = begins.0 in
      let is : h ≡ s.seen ++ others = sym begins.1 in
      let legal_h : IsLegal (m.may_follow t.setup) h = subst (λ u. IsLegal (m.may_follow u) h) seated.free.setup_is legal in
      let mine_is : entries_of author 0 h ≡ s.mine
      = subst (λ (z : Setup × ℕ). entries_of (m.author z.0) z.1 h ≡ s.mine) (λ i. (seated.free.setup_is i, seated.free.number_is i)) mine in
      let none : entries_after author 0 s.seen others ≡ []
      = append_cancel_left (entries_of author 0 s.seen) (entries_after author 0 s.seen others) []
      (sym (entries-append author 0 [] s.seen others)
      ∙ (ap (entries_of author 0) begins.1 ∙ (mine_is ∙ (seated.whole ∙ sym (append-nil (entries_of author 0 s.seen)))))) in
      record {
        others = others;
        is = is;
        follow = record { legal = subst (IsLegal (m.may_follow t.setup)) is legal_h; others = none };
        setup = setup ∙ seated.free.setup_is;
        mine = sym mine_is;
        legal = legal_h;
        moments = subst (OwnGiven gave author 0 []) begins.1 (given_append gave author [] s.seen others seated.moments (given_other gave author s.seen others none));
        change = change seated.free.number_is;
        at_is = seated.free.at_is;
        setup_is = seated.free.setup_is;
        number_is = seated.free.number_is;
      }

  -- the seat that took the value x and has given it back as y
  abbrev pub after : T → T → SeatView
  after x y = record s { seen = m.history y; mine = s.mine ++ added (m.history x) (m.history y); mark = m.mark y; change = m.change y; holds = false }

  -- it is that seat
  pub gone_back : (x y : T) (v w : SeatView) → v ≡ record s { seen = m.history x; mark = m.mark x; change = m.change x; holds = true }
      → w ≡ record v { seen = m.history y; mine = v.mine ++ added v.seen (m.history y); mark = m.mark y; change = m.change y; holds = false } → w ≡ after x y
  gone_back x y v w taken gone =
      gone ∙ ap (λ (u : SeatView). record u { seen = m.history y; mine = u.mine ++ added u.seen (m.history y); mark = m.mark y; change = m.change y; holds = false }) taken

  module _ (x : T) (f : Found x) where
    -- what holds of what the seat had seen, and stays whatever others add, holds of the value
    pub holds_found : (P : List Told → Type 0) → ((h es : List Told) → OthersFollow m.author m.may_follow t.setup 0 h es → P h → P (h ++ es)) → P s.seen → P (m.history x)
    holds_found P stays was = subst P (sym f.is) (stays s.seen f.others f.follow was)

    -- and what it comes to
    pub same_found : {A : Type 0} (told : List Told → A) → ((h es : List Told) → OthersFollow m.author m.may_follow t.setup 0 h es → told (h ++ es) ≡ told h) → told (m.history x) ≡ told s.seen
    same_found told stays = ap told f.is ∙ stays s.seen f.others f.follow

    -- where the value goes on by entries of the seat's own
    module _ (y : T) (goes : GoesOn m 0 x y) where
      pub given : (moment : ℕ) → AllAt moment (m.history x) (added (m.history x) (m.history y)) → gave moment ≡ true → IsSeated m.author m.may_follow gave t 0 (after x y)
      given moment at gives =
          let author : List Told → Told → ℕ = m.author t.setup in
          let h : List Told = m.history x in
          let more : List Told = added h (m.history y) in
          let own : AllBy author 0 h more = subst (λ u. AllBy (m.author u) 0 h more) f.setup goes.own in
          let legal : MayFollowAll (m.may_follow t.setup) h more = subst (λ u. MayFollowAll (m.may_follow u) h more) f.setup goes.legal in
          record {
            free = record { at_is = f.at_is; setup_is = f.setup_is; number_is = f.number_is; free = refl };
            whole = ap (λ l. l ++ more) f.mine ∙ (sym (own_after author 0 h more own) ∙ ap (entries_of author 0) (sym goes.history_is));
            legal = subst (IsLegal (m.may_follow t.setup)) (sym goes.history_is) (may_append (m.may_follow t.setup) [] h more f.legal legal);
            moments = subst (OwnGiven gave author 0 []) (sym goes.history_is) (given_append gave author [] h more f.moments (given_at gave author moment gives h more at));
          }

      -- it has seen more than it had
      pub grown : (w : SeatView) → w ≡ after x y → IsPrefix s.seen w.seen
      grown w gone =
          let more : List Told = added (m.history x) (m.history y) in
          (f.others ++ more, sym (append_assoc s.seen f.others more) ∙ (ap (λ l. l ++ more) (sym f.is) ∙ (sym goes.history_is ∙ sym (ap (λ (u : SeatView). u.seen) gone))))

      -- those entries follow as another's
      pub own_follow : (k : ℕ) → k ≢ 0 → OthersFollow m.author m.may_follow t.setup k (m.history x) (added (m.history x) (m.history y))
      own_follow k not =
          let h : List Told = m.history x in
          let more : List Told = added h (m.history y) in
          let own : AllBy (m.author t.setup) 0 h more = subst (λ u. AllBy (m.author u) 0 h more) f.setup goes.own in
          let legal : MayFollowAll (m.may_follow t.setup) h more = subst (λ u. MayFollowAll (m.may_follow u) h more) f.setup goes.legal in
          record {
            legal = may_append (m.may_follow t.setup) [] h more f.legal legal;
            others = none_other (m.author t.setup) 0 k h more not own;
          }

    -- where it is given back as it was
    pub given_as_it_was : IsSeated m.author m.may_follow gave t 0 (after x x)
    given_as_it_was =
        record {
          free = record { at_is = f.at_is; setup_is = f.setup_is; number_is = f.number_is; free = refl };
          whole = ap (λ l. s.mine ++ l) (drop-length (m.history x)) ∙ (append-nil s.mine ∙ f.mine);
          legal = f.legal;
          moments = f.moments;
        }
