-- Each step keeps the rule of the turn.
use Rattle.std.proofs.Common.{◌≡◌, ◌≢◌, ℕ, zero, suc, ◌+◌, ◌*◌, ◌%◌, ◌<◌, ◌≤◌, ◌⊎◌, Bool, true, false, cond, eqb, List, [], ◌∷◌, ◌++◌, length, get_or, set, refl, sym, ap, ◌∙◌, subst, ⊎_elim, inl, inr, arith, Option, Some, None, eq-eqb, ne_eqb, length-set, append_assoc}
use mathlib.Core.Option.{none, some, some-injective, some-ne-none}
use mathlib.Core.List.{IsPrefix}
use lib.ListN.{get_elem?}
use prog.Atomic.{either}
use Rattle.atomic_table.specs.Table.{State, step, Act, keeps, takes, gives, Valid, carried_after, stepped, opening, Allows, Splits, Joins, Final, Seen}
use Rattle.atomic_table.proofs.Lists.{at_set, set_again, exchanged}
use Rattle.esm_model.specs.declared.book.Change.{Change}
use Rattle.esm_model.specs.declared.setup.Told.{Told}
use Rattle.esm_model.specs.declared.setup.Setup.{Setup}
use Rattle.esm_model.specs.Kept.{Meaning, entries_of, IsLegal, MayFollowAll, AllBy, added}
use Rattle.esm_model.proofs.Growing.{own_after, other_after, may_append}
use Rattle.esm_turn.specs.declared.part.Part.{Part}
use Rattle.esm_turn.specs.Parts.{Each, begun_parts, parts_but, but_first, first_of_parts, Within}
use Rattle.esm_turn.specs.Rule.{word_of, out_bit, FitsPart, IsAt, IsHomeOrOut, IsKept, found_by, IsTaken, Took, given_by, Gave}
use Rattle.esm_turn.proofs.PartLemmas.{each_append, each_map, each_but, free_word, none-ne-some, number_is}

prefix_self : {A : Type 0} (xs : List A) → IsPrefix xs xs
prefix_self [] = ([], refl)
prefix_self (x ∷ xs) = (let r = prefix_self xs in r.0, ap (λ ys. x ∷ ys) (prefix_self xs).1)

prefix_more : {A : Type 0} (xs ys more : List A) → IsPrefix xs ys → IsPrefix xs (ys ++ more)
prefix_more xs ys more p = (p.0 ++ more, sym (append_assoc xs p.0 more) ∙ ap (λ w. w ++ more) p.1)

at_end : {A : Type 0} (l : List A) (a b : A) (j : ℕ) → get_elem? (l ++ a ∷ []) j ≡ some b → (get_elem? l j ≡ some b) ⊎ ((j ≡ length l) × (a ≡ b))
at_end [] a b zero e = inr (refl, some-injective a b e)
at_end [] a b (suc j) e = absurd (some-ne-none b (sym e))
at_end (x ∷ xs) a b zero e = inl e
at_end (x ∷ xs) a b (suc j) e = ⊎_elim (λ t. inl t) (λ t. inr (ap suc t.0, t.1)) (at_end xs a b j e)

at_only : {A : Type 0} (a b : A) (j : ℕ) → get_elem? (a ∷ []) j ≡ some b → (j ≡ 0) × (a ≡ b)
at_only a b zero e = (refl, some-injective a b e)
at_only a b (suc j) e = absurd (some-ne-none b (sym e))

pub of_each : (P : Part → Type 0) (p : Part) (ps : List Part) → Within p ps → Each P ps → P p
of_each P p [] h e = absurd h
of_each P p (q ∷ qs) h e = ⊎_elim (λ (is : p ≡ q). subst P (sym is) e.0) (λ (more : Within p qs). of_each P p qs more e.1) h

module _ {T : Type 0} (m : Meaning T) where
  -- the seat may give this value back
  pub record MayGive (p : Part) (x : T) : Type 0 where
    pub setup_is : m.setup x ≡ p.setup
    pub goes_on : m.history x ≡ p.seen ++ added p.seen (m.history x)
    pub legal : MayFollowAll (m.may_follow p.setup) p.seen (added p.seen (m.history x))
    pub own : AllBy (m.author p.setup) p.number p.seen (added p.seen (m.history x))
    pub marked : p.mark ≡ true → m.mark x ≡ true
    pub unchanged : (p.number ≡ 0 → ⊥) → m.change x ≡ p.change

  -- what is known of the value at the end, of a seat
  pub record EndsFor (setup : Setup) (p : Part) (x : T) : Type 0 where
    pub begins : IsPrefix p.seen (m.history x)
    pub mine : entries_of (m.author setup) p.number (m.history x) ≡ p.mine
    pub marked : p.mark ≡ true → m.mark x ≡ true
    pub change : p.number ≡ 0 → m.change x ≡ p.change

  -- and whatever the seats are
  pub record Ends (setup : Setup) (seats : ℕ) (x : T) : Type 0 where
    pub setup_is : m.setup x ≡ setup
    pub legal : IsLegal (m.may_follow setup) (m.history x)
    pub others : (n : ℕ) → seats ≤ n → entries_of (m.author setup) n (m.history x) ≡ []

module _ {T : Type 0} (m : Meaning T) (setup : Setup) (seats : ℕ) where
  abbrev St : Type 0
  St = State (Option T) (List Part)

  abbrev Rule : St → Type 0
  Rule = IsKept m setup seats

  abbrev Fits : List Told → Bool → Option Change → Option ℕ → (ℕ → ℕ) → ℕ → Part → Type 0
  Fits = FitsPart m setup seats

  begun_fits : (log : List Told) (mark : Bool) (change : Option Change) (k n : ℕ) → k + n ≤ seats → Each (Fits log mark change None (λ _. 0) 0) (begun_parts m.author setup log change k n)
  begun_fits log mark change k zero h = tt
  begun_fits log mark change k (suc n) h = (
    record {
      setup_is = refl;
      seated = omega arith;
      in_view = refl;
      seen = prefix_self log;
      marked = λ e. absurd cc;
      told = λ _. refl;
      mine = refl;
      holding = λ e. absurd cc;
      idle = λ _. none-ne-some k;
    },
    begun_fits log mark change (suc k) n (omega arith),
  )

  -- a value with this history and change, which its seats have seen
  pub starts : (x : T) (log : List Told) (change : Option Change) (w : ℕ) → m.setup x ≡ setup → m.history x ≡ log → m.change x ≡ change → IsLegal (m.may_follow setup) log → ((n : ℕ) → seats ≤ n → entries_of (m.author setup) n log ≡ [])
      → w ≡ word_of log (m.mark x) None → Rule (opening (w ∷ []) (Some x ∷ []) (begun_parts m.author setup log change 0 seats))
  starts x log change w same seen told legal others is = record {
    log = log;
    mark = m.mark x;
    change = change;
    holder = None;
    view_of = λ _. 0;
    words = ap (λ (n : ℕ). n ∷ []) is;
    home = (x, refl, record { setup_is = same; history_is = seen; mark_is = refl; change_is = told });
    legal = legal;
    others = others;
    each = λ j v at.
        let t = at_only (begun_parts m.author setup log change 0 seats) v j at in
        subst (λ (z : ℕ × List Part). Each (Fits log (m.mark x) change None (λ _. 0) z.0) z.1) (λ i. (sym t.0 i, t.1 i)) (begun_fits log (m.mark x) change 0 seats (omega arith));
  }

  -- the same part under another view_of
  moved : (log : List Told) (mark : Bool) (change : Option Change) (holder : Option ℕ) (view_of view_of' : ℕ → ℕ) (j j' : ℕ) (p : Part) → view_of' p.number ≡ j' → Fits log mark change holder view_of j p → Fits log mark change holder view_of' j' p
  moved log mark change holder view_of view_of' j j' p own f = record { setup_is = f.setup_is; seated = f.seated; in_view = own; seen = f.seen; marked = f.marked; told = f.told; mine = f.mine; holding = f.holding; idle = f.idle }

  cuts_first : (id : ℕ) (p : Part) (ps : List Part) (s : St) (r : Rule s) → get_elem? s.views id ≡ some (p ∷ ps)
      → Rule record { words = s.words; homes = s.homes; views = set s.views id (parts_but p.number ps) ++ (p ∷ []) ∷ [] }
  cuts_first id p ps s r at =
      let there = r.each id (p ∷ ps) at in
      let fresh : ℕ = length s.views in
      let view_of' : ℕ → ℕ = λ n. cond (eqb n p.number) fresh (r.view_of n) in
      let else : (n : ℕ) → n ≢ p.number → view_of' n ≡ r.view_of n = λ n ne. ap (λ b. cond b fresh (r.view_of n)) (ne_eqb n p.number ne) in
      let here : view_of' p.number ≡ fresh = ap (λ b. cond b fresh (r.view_of p.number)) (eq-eqb p.number p.number refl) in
      record {
        log = r.log;
        mark = r.mark;
        change = r.change;
        holder = r.holder;
        view_of = view_of';
        words = r.words;
        home = r.home;
        legal = r.legal;
        others = r.others;
        each = λ j v e. ⊎_elim
            (λ (old : get_elem? (set s.views id (parts_but p.number ps)) j ≡ some v). ⊎_elim
            (λ (t : (j ≡ id) × (parts_but p.number ps ≡ v)). subst (λ (z : ℕ × List Part). Each (Fits r.log r.mark r.change r.holder view_of' z.0) z.1) (λ i. (sym t.0 i, t.1 i))
            (each_but (Fits r.log r.mark r.change r.holder r.view_of id) (Fits r.log r.mark r.change r.holder view_of' id) p.number ps
            (λ q ne f. moved r.log r.mark r.change r.holder r.view_of view_of' id id q (else q.number ne ∙ f.in_view) f) there.1))
            (λ (t : (j ≢ id) × (get_elem? s.views j ≡ some v)). each_map (Fits r.log r.mark r.change r.holder r.view_of j) (Fits r.log r.mark r.change r.holder view_of' j) v
            (λ q f. moved r.log r.mark r.change r.holder r.view_of view_of' j j q (else q.number (λ same. t.0 (sym f.in_view ∙ (ap r.view_of same ∙ there.0.in_view))) ∙ f.in_view) f) (r.each j v t.1))
            (at_set s.views id j (parts_but p.number ps) v old))
            (λ t. subst (λ (z : ℕ × List Part). Each (Fits r.log r.mark r.change r.holder view_of' z.0) z.1) (λ i. (sym (t.0 ∙ length-set s.views id (parts_but p.number ps)) i, t.1 i))
            (moved r.log r.mark r.change r.holder r.view_of view_of' id fresh p here there.0, tt))
            (at_end (set s.views id (parts_but p.number ps)) (p ∷ []) v j e);
      }

  cuts_none : (id : ℕ) (s : St) (r : Rule s) → get_elem? s.views id ≡ some [] → Rule record { words = s.words; homes = s.homes; views = set s.views id [] ++ [] ∷ [] }
  cuts_none id s r at = record {
    log = r.log;
    mark = r.mark;
    change = r.change;
    holder = r.holder;
    view_of = r.view_of;
    words = r.words;
    home = r.home;
    legal = r.legal;
    others = r.others;
    each = λ j v e. ⊎_elim
        (λ (old : get_elem? (set s.views id []) j ≡ some v). r.each j v (subst (λ (l : List (List Part)). get_elem? l j ≡ some v) (set_again s.views id [] at) old))
        (λ t. subst (λ (l : List Part). Each (Fits r.log r.mark r.change r.holder r.view_of j) l) t.1 tt)
        (at_end (set s.views id []) [] v j e);
  }

  pub cuts : (id : ℕ) (v : List Part) → Splits Rule id v (but_first v) (first_of_parts v)
  cuts id [] s r at = cuts_none id s r at
  cuts id (p ∷ ps) s r at = cuts_first id p ps s r at

  pub glues : (id : ℕ) (v : List Part) (other : ℕ) (w : List Part) → Joins Rule id v other w (v ++ w) []
  glues id v other w s r at ne at' =
      let away : get_elem? s.views other ≡ some w = ⊎_elim (λ (t : (other ≡ id) × ((v ++ w) ≡ w)). absurd (ne t.0)) (λ (t : (other ≢ id) × (get_elem? s.views other ≡ some w)). t.1) (at_set s.views id other (v ++ w) w at') in
      let mine = r.each id v at in
      let theirs = r.each other w away in
      let view_of' : ℕ → ℕ = λ n. cond (eqb (r.view_of n) other) id (r.view_of n) in
      let else : (n : ℕ) → r.view_of n ≢ other → view_of' n ≡ r.view_of n = λ n ne. ap (λ b. cond b id (r.view_of n)) (ne_eqb (r.view_of n) other ne) in
      let here : (n : ℕ) → r.view_of n ≡ other → view_of' n ≡ id = λ n e. ap (λ b. cond b id (r.view_of n)) (eq-eqb (r.view_of n) other e) in
      record {
        log = r.log;
        mark = r.mark;
        change = r.change;
        holder = r.holder;
        view_of = view_of';
        words = r.words;
        home = r.home;
        legal = r.legal;
        others = r.others;
        each = λ j u e. ⊎_elim
            (λ (t : (j ≡ other) × ([] ≡ u)). subst (λ (l : List Part). Each (Fits r.log r.mark r.change r.holder view_of' j) l) t.1 tt)
            (λ (o : (j ≢ other) × (get_elem? (set s.views id (v ++ w)) j ≡ some u)). ⊎_elim
            (λ (t : (j ≡ id) × ((v ++ w) ≡ u)). subst (λ (z : ℕ × List Part). Each (Fits r.log r.mark r.change r.holder view_of' z.0) z.1) (λ i. (sym t.0 i, t.1 i))
            (each_append (Fits r.log r.mark r.change r.holder view_of' id) v w
            (each_map (Fits r.log r.mark r.change r.holder r.view_of id) (Fits r.log r.mark r.change r.holder view_of' id) v
            (λ q f. moved r.log r.mark r.change r.holder r.view_of view_of' id id q (else q.number (λ same. ne (sym same ∙ f.in_view)) ∙ f.in_view) f) mine)
            (each_map (Fits r.log r.mark r.change r.holder r.view_of other) (Fits r.log r.mark r.change r.holder view_of' id) w
            (λ q f. moved r.log r.mark r.change r.holder r.view_of view_of' other id q (here q.number f.in_view) f) theirs)))
            (λ (t : (j ≢ id) × (get_elem? s.views j ≡ some u)). each_map (Fits r.log r.mark r.change r.holder r.view_of j) (Fits r.log r.mark r.change r.holder view_of' j) u
            (λ q f. moved r.log r.mark r.change r.holder r.view_of view_of' j j q (else q.number (λ same. o.0 (sym f.in_view ∙ same)) ∙ f.in_view) f) (r.each j u t.1))
            (at_set s.views id j (v ++ w) u o.1))
            (at_set (set s.views id (v ++ w)) other j [] u e);
      }

  found_mine : (s : St) (r : Rule s) (x : T) (p : Part) (id : ℕ) → IsAt m setup r.log r.mark r.change x → Fits r.log r.mark r.change r.holder r.view_of id p → IsTaken m p x
  found_mine s r x p id is f = record {
    setup_is = is.setup_is ∙ sym f.setup_is;
    begins = subst (IsPrefix p.seen) (sym is.history_is) f.seen;
    marked = λ e. is.mark_is ∙ f.marked e;
    told = λ e. is.change_is ∙ sym (f.told e);
    legal = subst (λ (z : Setup × List Told). IsLegal (m.may_follow z.0) z.1) (λ i. (sym f.setup_is i, sym is.history_is i)) r.legal;
    mine = ap (λ (z : Setup × List Told). entries_of (m.author z.0) p.number z.1) (λ i. (f.setup_is i, is.history_is i)) ∙ f.mine;
  }

  takes_free : (s : St) (r : Rule s) (id : ℕ) (p : Part) (new : ℕ) (homes : List (mathlib.Core.Option.Option (Option T))) → get_elem? s.views id ≡ some (p ∷ [])
      → r.holder ≡ None → new ≡ get_or s.words 0 0 + 1 → homes ≡ none ∷ []
      → Rule record { words = set s.words 0 new; homes = homes; views = set s.views id (found_by p r.log r.mark r.change ∷ []) }
  takes_free s r id p new homes at free new_is homes_is =
      let mine = (r.each id (p ∷ []) at).0 in
      let holder' : Option ℕ = Some p.number in
      let w : Part = found_by p r.log r.mark r.change in
      record {
        log = r.log;
        mark = r.mark;
        change = r.change;
        holder = holder';
        view_of = r.view_of;
        words = ap (λ (ws : List ℕ). set ws 0 new) r.words ∙ ap (λ (n : ℕ). n ∷ []) (
            let word : get_or s.words 0 0 ≡ word_of r.log r.mark r.holder = ap (λ (ws : List ℕ). get_or ws 0 0) r.words in
            let c : ℕ = cond r.mark 2 0 in
            let word' : get_or s.words 0 0 ≡ length r.log * 4 + c + 0 = word ∙ ap (λ h. length r.log * 4 + c + out_bit h) free in
            let goal : new ≡ length r.log * 4 + c + 1 = omega (arith, word', new_is) in goal);
        home = (mine.seated, homes_is);
        legal = r.legal;
        others = r.others;
        each = λ j v e. ⊎_elim
            (λ (t : (j ≡ id) × ((w ∷ []) ≡ v)). subst (λ (z : ℕ × List Part). Each (Fits r.log r.mark r.change holder' r.view_of z.0) z.1) (λ i. (sym t.0 i, t.1 i)) (
              record {
                setup_is = mine.setup_is;
                seated = mine.seated;
                in_view = mine.in_view;
                seen = prefix_self r.log;
                marked = λ e. e;
                told = λ _. refl;
                mine = mine.mine;
                holding = λ e. (refl, refl, refl, refl);
                idle = λ e. absurd cc;
              },
              tt,
            ))
            (λ (t : (j ≢ id) × (get_elem? s.views j ≡ some v)). each_map (Fits r.log r.mark r.change r.holder r.view_of j) (Fits r.log r.mark r.change holder' r.view_of j) v
            (λ q f.
            let other : q.number ≢ p.number = λ same. t.0 (sym f.in_view ∙ (ap r.view_of same ∙ mine.in_view)) in
            record {
              setup_is = f.setup_is;
              seated = f.seated;
              in_view = f.in_view;
              seen = f.seen;
              marked = f.marked;
              told = f.told;
              mine = f.mine;
              holding = λ h. absurd (none-ne-some q.number (sym free ∙ (f.holding h).0));
              idle = λ h e. other (sym (number_is p.number q.number e));
            })
            (r.each j v t.1))
            (at_set s.views id j (w ∷ []) v e);
      }

  keeps_all : (s : St) (id : ℕ) (v : List Part) → get_elem? s.views id ≡ some v → (w : ℕ) → s.words ≡ w ∷ [] → Rule s → Rule record { words = set s.words 0 (get_or s.words 0 0); homes = s.homes; views = set s.views id v }
  keeps_all s id v at w is r = subst (λ (z : List ℕ × List (List Part)). Rule record { words = z.0; homes = s.homes; views = z.1 })
      (λ i. (sym (ap (λ (ws : List ℕ). set ws 0 (get_or ws 0 0)) is ∙ sym is) i, sym (set_again s.views id v at) i)) r

  -- the turn is taken where the word is as it was expected, which is free
  pub takes_turn : (slots id : ℕ) (p : Part) (old new : ℕ) → old % 2 ≡ 0 → new ≡ old + 1
      → Allows Rule slots id (p ∷ [], []) 0 (λ n. either (eqb n old) new n) (Took m (step slots 0 old new none) (p ∷ [], []))
  takes_turn slots id p old new even next s r long at small =
      let n : ℕ = get_or s.words 0 0 in
      let here : n ≡ word_of r.log r.mark r.holder = ap (λ (ws : List ℕ). get_or ws 0 0) r.words in
      exchanged n old new (λ k. (w : List Part) × (a : Act (Option T)) × Valid s.homes [] a × Rule (stepped s 0 k id [] w a) × Took m (step slots 0 old new none) (p ∷ [], []) n (w, carried_after [] a))
      (λ hit.
      let free : r.holder ≡ None = free_word r.log r.mark r.holder (ap (λ (k : ℕ). k % 2) (sym here ∙ hit) ∙ even) in
      let home = subst (λ h. IsHomeOrOut m setup seats r.log r.mark r.change h s.homes) free r.home in
      let x = home.0 in
      let is = home.2 in
      let mine = (r.each id (p ∷ []) at).0 in (
        found_by p r.log r.mark r.change ∷ [],
        takes 0 (Some x),
        ap (λ hs. get_elem? hs 0) home.1,
        takes_free s r id p new (set s.homes 0 none) at free (next ∙ ap (λ (k : ℕ). k + 1) (sym hit)) (ap (λ hs. set hs 0 none) home.1),
        (
          (λ e q only. (
            x,
            subst (λ (u : Part). IsTaken m u x) (ap (λ l. get_or l 0 p) only) (found_mine s r x p id is mine),
            (λ i. (found_by (ap (λ l. get_or l 0 p) only i) (sym is.history_is i) (sym is.mark_is i) (sym is.change_is i) ∷ [], (0, Some x) ∷ [])),
          )),
          (λ ne. absurd (ne hit)),
        ),
      ))
      (λ miss. (p ∷ [], keeps, tt, keeps_all s id (p ∷ []) at (word_of r.log r.mark r.holder) r.words r, ((λ e. absurd (miss e)), λ _. refl)))

  gives_back : (s : St) (r : Rule s) (id : ℕ) (p : Part) (x : T) (new : ℕ) (homes : List (mathlib.Core.Option.Option (Option T))) → get_elem? s.views id ≡ some (p ∷ [])
      → p.holds ≡ true → MayGive m p x → new ≡ word_of (m.history x) (m.mark x) None → homes ≡ some (Some x) ∷ []
      → Rule record { words = set s.words 0 new; homes = homes; views = set s.views id (given_by p (m.history x) (m.mark x) (m.change x) ∷ []) }
  gives_back s r id p x new homes at holds may new_is homes_is =
      let mine = (r.each id (p ∷ []) at).0 in
      let held = mine.holding holds in
      let more : List Told = added p.seen (m.history x) in
      let goes : m.history x ≡ r.log ++ more = may.goes_on ∙ ap (λ l. l ++ more) held.1 in
      let by : AllBy (m.author setup) p.number r.log more = subst (λ (z : Setup × List Told). AllBy (m.author z.0) p.number z.1 more) (λ i. (mine.setup_is i, held.1 i)) may.own in
      let w : Part = given_by p (m.history x) (m.mark x) (m.change x) in
      let log' : List Told = m.history x in
      let mark' : Bool = m.mark x in
      let change' : Option Change = m.change x in
      record {
        log = log';
        mark = mark';
        change = change';
        holder = None;
        view_of = r.view_of;
        words = ap (λ (ws : List ℕ). set ws 0 new) r.words ∙ ap (λ (n : ℕ). n ∷ []) new_is;
        home = (x, homes_is, record { setup_is = may.setup_is ∙ mine.setup_is; history_is = refl; mark_is = refl; change_is = refl });
        legal = subst (IsLegal (m.may_follow setup)) (sym goes)
            (may_append (m.may_follow setup) [] r.log more r.legal (subst (λ (z : Setup × List Told). MayFollowAll (m.may_follow z.0) z.1 more) (λ i. (mine.setup_is i, held.1 i)) may.legal));
        others = λ n h. ap (entries_of (m.author setup) n) goes
            ∙ (other_after (m.author setup) p.number n r.log more (λ same. (let u = mine.seated in omega (arith, same, h, u))) by ∙ r.others n h);
        each = λ j v e. ⊎_elim
            (λ (t : (j ≡ id) × ((w ∷ []) ≡ v)). subst (λ (z : ℕ × List Part). Each (Fits log' mark' change' None r.view_of z.0) z.1) (λ i. (sym t.0 i, t.1 i)) (
              record {
                setup_is = mine.setup_is;
                seated = mine.seated;
                in_view = mine.in_view;
                seen = prefix_self log';
                marked = λ e. e;
                told = λ _. refl;
                mine = ap (entries_of (m.author setup) p.number) goes ∙ (own_after (m.author setup) p.number r.log more by ∙ ap (λ l. l ++ more) mine.mine);
                holding = λ e. absurd cc;
                idle = λ _. none-ne-some p.number;
              },
              tt,
            ))
            (λ (t : (j ≢ id) × (get_elem? s.views j ≡ some v)). each_map (Fits r.log r.mark r.change r.holder r.view_of j) (Fits log' mark' change' None r.view_of j) v
            (λ q f.
            let other : q.number ≢ p.number = λ same. t.0 (sym f.in_view ∙ (ap r.view_of same ∙ mine.in_view)) in
            record {
              setup_is = f.setup_is;
              seated = f.seated;
              in_view = f.in_view;
              seen = subst (IsPrefix q.seen) (sym goes) (prefix_more q.seen r.log more f.seen);
              marked = λ h. may.marked (held.2 ∙ f.marked h);
              told = λ h. f.told h ∙ (sym held.3 ∙ sym (may.unchanged (λ e. other (h ∙ sym e))));
              mine = ap (entries_of (m.author setup) q.number) goes ∙ (other_after (m.author setup) p.number q.number r.log more other by ∙ f.mine);
              holding = λ h. absurd (other (number_is q.number p.number (sym (f.holding h).0 ∙ held.0)));
              idle = λ _. none-ne-some q.number;
            })
            (r.each j v t.1))
            (at_set s.views id j (w ∷ []) v e);
      }

  abbrev value_or : T → Option T → T
  value_or d (Some x) = x
  value_or d None = d

  pub gives_turn : (slots id : ℕ) (p : Part) (x : T) (new : ℕ) → p.holds ≡ true → MayGive m p x → new ≡ word_of (m.history x) (m.mark x) None
      → Allows Rule slots id (p ∷ [], (0, Some x) ∷ []) 0 (λ _. new) (λ _ after. Gave m (p ∷ [], (0, Some x) ∷ []) after)
  gives_turn slots id p x new holds may new_is s r long at small =
      let mine = (r.each id (p ∷ []) at).0 in
      let held = mine.holding holds in
      let empty : s.homes ≡ none ∷ [] = (subst (λ h. IsHomeOrOut m setup seats r.log r.mark r.change h s.homes) held.0 r.home).1 in (
        given_by p (m.history x) (m.mark x) (m.change x) ∷ [],
        gives,
        tt,
        gives_back s r id p x new (set s.homes 0 (some (Some x))) at holds may new_is (ap (λ hs. set hs 0 (some (Some x))) empty),
        (λ q y same. (λ i. (given_by (get_or (same i).0 0 p) (m.history (value_or x (get_or (same i).1 0 (0, Some x)).1)) (m.mark (value_or x (get_or (same i).1 0 (0, Some x)).1)) (m.change (value_or x (get_or (same i).1 0 (0, Some x)).1)) ∷ [], []))),
      )

  -- of the value at home, at the end
  ended : (s : St) (r : Rule s) (id : ℕ) (v : List Part) (x : T) → IsAt m setup r.log r.mark r.change x → Each (Fits r.log r.mark r.change r.holder r.view_of id) v
      → Ends m setup seats x × ((p : Part) → Within p v → EndsFor m setup p x)
  ended s r id v x is each = (
    record {
      setup_is = is.setup_is;
      legal = subst (IsLegal (m.may_follow setup)) (sym is.history_is) r.legal;
      others = λ n h. ap (entries_of (m.author setup) n) is.history_is ∙ r.others n h;
    },
    (λ p within.
        let f = of_each (Fits r.log r.mark r.change r.holder r.view_of id) p v within each in
        record {
          begins = subst (IsPrefix p.seen) (sym is.history_is) f.seen;
          mine = ap (entries_of (m.author setup) p.number) is.history_is ∙ f.mine;
          marked = λ e. is.mark_is ∙ f.marked e;
          change = λ e. is.change_is ∙ sym (f.told e);
        }),
  )

  -- where the last seat has the parts of all, and none has the value, the value is at home
  at_home : (s : St) (r : Rule s) (id : ℕ) (v : List Part) → Each (Fits r.log r.mark r.change r.holder r.view_of id) v → Each (λ p. p.holds ≡ false) v
      → ((n : ℕ) → n < seats → (p : Part) × Within p v × (p.number ≡ n)) → (holder : Option ℕ) → r.holder ≡ holder → IsHomeOrOut m setup seats r.log r.mark r.change holder s.homes
      → (x : T) × (s.homes ≡ some (Some x) ∷ []) × IsAt m setup r.log r.mark r.change x
  at_home s r id v each idle all None is home = home
  at_home s r id v each idle all (Some n) is home =
      let p = all n home.0 in
      let f = of_each (Fits r.log r.mark r.change r.holder r.view_of id) p.0 v p.1 each in
      absurd (f.idle (of_each (λ q. q.holds ≡ false) p.0 v p.1 idle) (is ∙ ap (λ k. Some k) (sym p.2)))

  pub ends : (id : ℕ) (v : List Part) (ws : List ℕ) (xs : List (Option T)) → Final (Seen Rule id v) ws xs
      → Each (λ p. p.holds ≡ false) v → ((n : ℕ) → n < seats → (p : Part) × Within p v × (p.number ≡ n))
      → (x : T) × (get_elem? xs 0 ≡ some (Some x)) × Ends m setup seats x × ((p : Part) → Within p v → EndsFor m setup p x)
  ends id v ws xs final idle all =
      let s = final.0 in
      let r = final.1.0 in
      let each = r.each id v final.1.1 in
      let home = at_home s r id v each idle all r.holder refl r.home in
      let known = ended s r id v home.0 home.2 each in
      (home.0, final.4 0 (Some home.0) (ap (λ hs. get_elem? hs 0) home.1), known.0, known.1)
