-- What a seat knows when it has taken the turn, and when it has given it back.
use Rattle.std.proofs.Common.{◌≡◌, ℕ, Bool, true, false, cond, eqb, Result, Ok, Err, OnOk, OnErr, List, [], ◌∷◌, ◌++◌, refl, sym, ap, ◌∙◌, subst, append_assoc, eq-eqb}
use Rattle.std.proofs.lemmas.List.{append-nil, append_cancel_left}
use mathlib.Core.List.{IsPrefix}
use Rattle.esm_model.specs.declared.setup.Setup.{Setup}
use Rattle.esm_model.specs.declared.setup.Told.{Told}
use Rattle.esm_model.specs.Kept.{Meaning, entries_after, entries_of, IsLegal, MayFollowAll, AllBy, added}
use Rattle.esm_model.proofs.Growing.{entries-append, own_after, may_append}
use Rattle.esm_model.specs.GoingOn.{GoesOn, OthersFollow, AllAt, OwnGiven}
use Rattle.esm_turn.specs.Seats.{TurnView, SeatView}
use Rattle.esm_workers.specs.Seated.{IsSeated}

pub on_ok : {A E : Type 0} (r : Result A E) (P Q : Type 0) → (P → Q) → OnOk r P → OnOk r Q
on_ok (Ok a) P Q step holds = step holds
on_ok (Err e) P Q step holds = tt

pub on_err : {A E : Type 0} (r : Result A E) (P Q : Type 0) → (P → Q) → OnErr r P → OnErr r Q
on_err (Ok a) P Q step holds = tt
on_err (Err e) P Q step holds = step holds

pub not_picked : (b : Bool) (e : Told) (rest : List Told) → cond b (e ∷ rest) rest ≡ [] → (b ≡ false) × (rest ≡ [])
not_picked true e rest is = absurd (cc)
not_picked false e rest is = (refl, is)

module _ (gave : ℕ → Bool) (author : List Told → Told → ℕ) (n : ℕ) where
  given_append : (h xs ys : List Told) → OwnGiven gave author n h xs → OwnGiven gave author n (h ++ xs) ys → OwnGiven gave author n h (xs ++ ys)
  given_append h [] ys one two = subst (λ l. OwnGiven gave author n l ys) (append-nil h) two
  given_append h (x ∷ xs) ys one two =
      (one.0, given_append (h ++ x ∷ []) xs ys one.1 (subst (λ l. OwnGiven gave author n l ys) (sym (append_assoc h (x ∷ []) xs)) two))

  -- entries at a moment that was given
  given_at : (moment : ℕ) → gave moment ≡ true → (h es : List Told) → AllAt moment h es → OwnGiven gave author n h es
  given_at moment gives h [] at = tt
  given_at moment gives h (e ∷ es) at = (λ own. (moment, gives, at.0), given_at moment gives (h ++ e ∷ []) es at.1)

  -- entries of others alone
  given_other : (h es : List Told) → entries_after author n h es ≡ [] → OwnGiven gave author n h es
  given_other h [] none = tt
  given_other h (e ∷ es) none =
      let not = not_picked (eqb (author h e) n) e (entries_after author n (h ++ e ∷ []) es) none in
      (λ own. absurd (let yes = eq-eqb (author h e) n own in let no = not.0 in cc), given_other (h ++ e ∷ []) es not.1)

module _ {T : Type 0} (m : Meaning T) (gave : ℕ → Bool) (t : TurnView) (n : ℕ) where
  -- what the seat knows of the history h of the value that it has taken
  pub record Found (s : SeatView) (h : List Told) : Type 0 where
    pub others : List Told
    pub is : h ≡ s.seen ++ others
    pub follow : OthersFollow m.author m.may_follow t.setup n s.seen others
    pub mine : s.mine ≡ entries_of (m.author t.setup) n h
    pub legal : IsLegal (m.may_follow t.setup) h
    pub moments : OwnGiven gave (m.author t.setup) n [] h

  pub found : (s : SeatView) (h : List Told) → IsSeated m.author m.may_follow gave t n s → IsLegal (m.may_follow s.setup) h → IsPrefix s.seen h
      → entries_of (m.author s.setup) s.number h ≡ s.mine → Found s h
  found s h seated legal begins mine =
      let author : List Told → Told → ℕ = m.author t.setup in
      let others : List Told = begins.0 in
      let is : h ≡ s.seen ++ others = sym begins.1 in
      let legal_h : IsLegal (m.may_follow t.setup) h = subst (λ u. IsLegal (m.may_follow u) h) seated.free.setup_is legal in
      let mine_is : entries_of author n h ≡ s.mine
      = subst (λ (z : Setup × ℕ). entries_of (m.author z.0) z.1 h ≡ s.mine) (λ i. (seated.free.setup_is i, seated.free.number_is i)) mine in
      let none : entries_after author n s.seen others ≡ []
      = append_cancel_left (entries_of author n s.seen) (entries_after author n s.seen others) []
      (sym (entries-append author n [] s.seen others)
      ∙ (ap (entries_of author n) begins.1 ∙ (mine_is ∙ (seated.whole ∙ sym (append-nil (entries_of author n s.seen)))))) in
      record {
        others = others;
        is = is;
        follow = record { legal = subst (IsLegal (m.may_follow t.setup)) is legal_h; others = none };
        mine = sym mine_is;
        legal = legal_h;
        moments = subst (OwnGiven gave author n []) begins.1 (given_append gave author n [] s.seen others seated.moments (given_other gave author n s.seen others none));
      }

  -- the seat that took the value x and has given it back as y
  abbrev pub after : SeatView → T → T → SeatView
  after s x y = record s { seen = m.history y; mine = s.mine ++ added (m.history x) (m.history y); mark = m.mark y; change = m.change y; holds = false }

  pub given : (moment : ℕ) (s : SeatView) (x y : T) → IsSeated m.author m.may_follow gave t n s → Found s (m.history x) → m.setup x ≡ t.setup
      → GoesOn m n x y → AllAt moment (m.history x) (added (m.history x) (m.history y)) → gave moment ≡ true → IsSeated m.author m.may_follow gave t n (after s x y)
  given moment s x y seated f setup goes at gives =
      let author : List Told → Told → ℕ = m.author t.setup in
      let h : List Told = m.history x in
      let more : List Told = added h (m.history y) in
      let own : AllBy author n h more = subst (λ u. AllBy (m.author u) n h more) setup goes.own in
      let legal : MayFollowAll (m.may_follow t.setup) h more = subst (λ u. MayFollowAll (m.may_follow u) h more) setup goes.legal in
      record {
        free = record { at_is = seated.free.at_is; setup_is = seated.free.setup_is; number_is = seated.free.number_is; free = refl };
        whole = ap (λ l. l ++ more) f.mine ∙ (sym (own_after author n h more own) ∙ ap (entries_of author n) (sym goes.history_is));
        legal = subst (IsLegal (m.may_follow t.setup)) (sym goes.history_is) (may_append (m.may_follow t.setup) [] h more f.legal legal);
        moments = subst (OwnGiven gave author n []) (sym goes.history_is) (given_append gave author n [] h more f.moments (given_at gave author n moment gives h more at));
      }

  -- it is that seat
  pub gone_back : (s v w : SeatView) (x y : T) → v ≡ record s { seen = m.history x; mark = m.mark x; change = m.change x; holds = true }
      → w ≡ record v { seen = m.history y; mine = v.mine ++ added v.seen (m.history y); mark = m.mark y; change = m.change y; holds = false } → w ≡ after s x y
  gone_back s v w x y taken gone = gone ∙ ap (λ (u : SeatView). record u { seen = m.history y; mine = u.mine ++ added u.seen (m.history y); mark = m.mark y; change = m.change y; holds = false }) taken

  -- it has seen more than it had
  pub grown : (s w : SeatView) (x y : T) → Found s (m.history x) → w ≡ after s x y → m.history y ≡ m.history x ++ added (m.history x) (m.history y) → IsPrefix s.seen w.seen
  grown s w x y f gone is =
      let more : List Told = added (m.history x) (m.history y) in
      (f.others ++ more, sym (append_assoc s.seen f.others more) ∙ (ap (λ l. l ++ more) (sym f.is) ∙ (sym is ∙ sym (ap (λ (u : SeatView). u.seen) gone))))

  -- what held of what the seat had seen holds of the value that it took
  pub holds_found : (P : Setup → List Told → Type 0) (s : SeatView) (x : T) → Found s (m.history x) → m.setup x ≡ t.setup
      → ((h es : List Told) → OthersFollow m.author m.may_follow t.setup n h es → P t.setup h → P t.setup (h ++ es)) → P t.setup s.seen → P (m.setup x) (m.history x)
  holds_found P s x f setup stays was =
      subst (λ (z : Setup × List Told). P z.0 z.1) (λ i. (sym setup i, sym f.is i)) (stays s.seen f.others f.follow was)

  -- and of what the seat has seen then, where nothing was added
  pub holds_still : (P : Setup → List Told → Type 0) (s w : SeatView) (x y : T) → Found s (m.history x) → w ≡ after s x y → m.history y ≡ m.history x
      → ((h es : List Told) → OthersFollow m.author m.may_follow t.setup n h es → P t.setup h → P t.setup (h ++ es)) → P t.setup s.seen → P t.setup w.seen
  holds_still P s w x y f gone same stays was =
      subst (λ (l : List Told). P t.setup l) (sym (ap (λ (u : SeatView). u.seen) gone ∙ (same ∙ f.is))) (stays s.seen f.others f.follow was)

  -- what the value's entries come to, as they were and as they were added to
  pub comes_to : {A : Type 0} (told : Setup → List Told → A) (more : Setup → A → A) (s w : SeatView) (x y : T) → Found s (m.history x) → m.setup x ≡ t.setup → w ≡ after s x y
      → ((h es : List Told) → OthersFollow m.author m.may_follow t.setup n h es → told t.setup (h ++ es) ≡ told t.setup h)
      → told (m.setup x) (m.history y) ≡ more (m.setup x) (told (m.setup x) (m.history x)) → told t.setup w.seen ≡ more t.setup (told t.setup s.seen)
  comes_to {A} told more s w x y f setup gone stays now =
      let at_end : told t.setup (m.history y) ≡ more t.setup (told t.setup (m.history x)) = subst (λ u. told u (m.history y) ≡ more u (told u (m.history x))) setup now in
      let before : told t.setup (m.history x) ≡ told t.setup s.seen = ap (told t.setup) f.is ∙ stays s.seen f.others f.follow in
      ap (λ (u : SeatView). told t.setup u.seen) gone ∙ (at_end ∙ ap (more t.setup) before)

  -- a seat that has added nothing has seen what others wrote alone
  pub unused : (s : SeatView) → IsSeated m.author m.may_follow gave t n s → s.mine ≡ [] → OthersFollow m.author m.may_follow t.setup n [] s.seen
  unused s seated none = record { legal = seated.legal; others = sym seated.whole ∙ none }
