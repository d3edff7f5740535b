-- What is kept stays true where an owed entry is added, is given up, or an entry is noted.
use Rattle.std.proofs.Common.{◌≡◌, ℕ, ◌<◌, ◌≤◌, Bool, true, false, not, List, [], ◌∷◌, ◌++◌, drop, reverse, length, refl, sym, ap, ap₂, ◌∙◌, subst, Option, Some, None, arith, Vec, Global}
use Rattle.std.proofs.lemmas.Bool.{not-false, eqb-true, false_from_ne_true}
use Rattle.std.proofs.lemmas.List.{reverse-append, length-reverse, length-map}
use Rattle.std.specs.Prelude.{◌==◌}
use Rattle.std.specs.List.{cons_option}
use Rattle.esm_model.specs.declared.entry.Entry.{Entry}
use Rattle.esm_model.specs.Setting.{Setting, Stream}
use Rattle.esm_model.specs.Entries.{moment_of, last_moment}
use Rattle.esm_model.specs.Books.{entry_line}
use Rattle.esm_ledger.specs.declared.ledger.Ledger.{Ledger}
use Rattle.esm_ledger.specs.declared.coming.Coming.{Coming}
use Rattle.esm_ledger.specs.Ledger.{past_of, setting_of}
use Rattle.esm_outcome.specs.Ending.{SettledOver}
use Rattle.esm_record_bounds.specs.Bounds.{AreWithinBounds}
use Rattle.esm_stream_core.specs.declared.owed.Act.{Act}
use Rattle.esm_stream_core.specs.declared.owed.Owed.{Owed}
use Rattle.esm_stream_core.specs.declared.standing.Standing.{Standing}
use Rattle.esm_stream_core.specs.declared.standing.Standing.TheVariants.{Whole, Paying, Left}
use Rattle.esm_stream_core.specs.CoreView.{CoreView, setting_after, setting_with, lines_of, is_none_left, are_left, paid, forgotten}
use Rattle.esm_stream_core.specs.Kept.{MayAdd, Stands, StandsSo, IsKept}
use Rattle.esm_stream_core.specs.Standing.{standing_paid, standing_forgotten, can_pay}
use Rattle.esm_stream_core.specs.Acts.{owed_entry, entries_of, parts_of, AreWritten}
use Rattle.esm_stream_core.specs.Adding.{costs, IsAdded, CanAdd}
use Rattle.esm_stream_core.specs.declared.stream_core.StreamCore.TheInside.{Inside}
use Rattle.esm_stream_core.specs.Inside.{view_of, IsCore}
use Rattle.esm_stream_core.proofs.Keeping.{accounts_paid, accounts_forgotten, IsCoreOf, core_of}
use Rattle.esm_stream_core.proofs.Settling.{full_after, bounds_before}
use Rattle.esm_stream_core.proofs.Hand.{none_first}
use Rattle.esm_stream_core.proofs.Leaving.{left_of}

-- as it is seen
abbrev pub seen : Ledger → List Coming → List Owed → Standing → CoreView
seen c xs owed st = record { setting = setting_of c; past = past_of c; coming = parts_of xs; owed = entries_of owed; standing = st }

pub stands_of : (c : Ledger) (xs : List Coming) (owed : List Owed) (st : Standing) → StandsSo c xs owed st → can_pay st ≡ true → Stands c xs owed
stands_of c xs owed Whole s can = s.0
stands_of c xs owed Paying s can = s
stands_of c xs owed Left s can = absurd (cc)

-- an owed entry is added

-- the parts that are still coming
pub parts_left : (xs : List Coming) → parts_of (drop 1 xs) ≡ drop 1 (parts_of xs)
parts_left [] = refl
parts_left (x ∷ xs) = refl

settles_after : (c d : Ledger) (xs : List Coming) (o : Owed) (rest : List Owed) → IsAdded c d xs o.act
    → MayAdd (setting_after (setting_of c) (parts_of xs)) (owed_entry o ∷ past_of c) (drop 1 (parts_of xs)) (entries_of rest) → MayAdd (setting_of d) (past_of d) (parts_of (drop 1 xs)) (entries_of rest)
settles_after c d xs o rest a may =
    subst (λ (ps : List Stream). MayAdd (setting_of d) (past_of d) ps (entries_of rest)) (sym (parts_left xs))
    (subst (λ (h : List Entry). MayAdd (setting_of d) h (drop 1 (parts_of xs)) (entries_of rest)) (sym a.past)
    (subst (λ (s : Setting). MayAdd s (owed_entry o ∷ past_of c) (drop 1 (parts_of xs)) (entries_of rest)) (sym a.setting) may))

stands_added : (c d : Ledger) (xs : List Coming) (o : Owed) (rest : List Owed) → Stands c xs (o ∷ rest) → IsAdded c d xs o.act → Stands d (drop 1 xs) rest
stands_added c d xs o rest s a = record {
  keeps = a.keeps;
  settles = settles_after c d xs o rest a s.settles.1;
  room = a.room (costs rest) (
      let r = s.room in
      record {
        room = (let q = r.room in omega (arith, q));
        short = (let q = r.short in omega (arith, q));
      });
  payable = s.payable.1 d a;
}

no_rest : (d : Ledger) (xs : List Coming) (rest : List Owed) → rest ≡ [] → Stands d xs rest → SettledOver (setting_of d) (past_of d)
no_rest d xs rest none s = subst (λ (os : List Owed). MayAdd (setting_of d) (past_of d) (parts_of xs) (entries_of os)) none s.settles

stands_paid : (d : Ledger) (xs : List Coming) (rest : List Owed) (st : Standing) (more : Bool) → (more ≡ false → rest ≡ []) → can_pay st ≡ true → Stands d xs rest → StandsSo d xs rest (standing_paid st more)
stands_paid d xs rest Whole true none can s = s
stands_paid d xs rest Whole false none can s = (s, no_rest d xs rest (none refl) s)
stands_paid d xs rest Paying true none can s = s
stands_paid d xs rest Paying false none can s = (s, no_rest d xs rest (none refl) s)
stands_paid d xs rest Left more none can s = absurd (cc)

-- the setting with all that is coming stays the same
pub full_added : (c d : Ledger) (xs : List Coming) (a : Act) → IsAdded c d xs a → setting_with (setting_of d) (parts_of (drop 1 xs)) ≡ setting_with (setting_of c) (parts_of xs)
full_added c d xs a added =
    ap₂ setting_with added.setting (parts_left xs) ∙ full_after (setting_of c) (parts_of xs)

fewer_lines : (e : Entry) (es : List Entry) → length (lines_of (e ∷ es)) ≤ 1 → length (lines_of es) ≤ 1
fewer_lines e es few = fewer_with (entry_line e) (lines_of es) few
  where
    fewer_with : (o : Option (List ℕ)) (ls : List (List ℕ)) → length (cons_option o ls) ≤ 1 → length ls ≤ 1
    fewer_with None ls few = few
    fewer_with (Some l) ls few = omega (arith, few)

pub can_add : (c : Ledger) (xs : List Coming) (o : Owed) (rest : List Owed) (st : Standing) → IsKept c xs (o ∷ rest) st → can_pay st ≡ true → CanAdd c xs o.act
can_add c xs o rest st k can =
    let s = stands_of c xs (o ∷ rest) st k.stands can in
    record {
      keeps = s.keeps;
      ready = s.payable.0;
      room = (let r = s.room in
          record {
            room = (let q = r.room in omega (arith, q));
            short = (let q = r.short in omega (arith, q));
          });
      legal = s.settles.0;
    }

pub kept_paid : (c d : Ledger) (xs : List Coming) (o : Owed) (rest : List Owed) (st : Standing) (more : Bool) → (more ≡ false → rest ≡ []) → IsKept c xs (o ∷ rest) st → can_pay st ≡ true → IsAdded c d xs o.act → IsKept d (drop 1 xs) rest (standing_paid st more)
kept_paid c d xs o rest st more none k can a =
    let stands = stands_added c d xs o rest (stands_of c xs (o ∷ rest) st k.stands can) a in
    let last : d.last ≡ last_moment (past_of d) = stands.keeps.rests.last in
    let moment : last_moment (past_of d) ≡ moment_of (owed_entry o) = ap last_moment a.past in
    let within = k.written.0.in_time in
    let same : setting_with (setting_of c) (parts_of xs) ≡ setting_with (setting_of d) (parts_of (drop 1 xs)) = sym (full_added c d xs o.act a) in
    record {
      last = last;
      in_time = omega (arith, last, moment, within);
      written = subst (λ (s : Setting). AreWritten s rest) same k.written.1;
      lines = fewer_lines (owed_entry o) (entries_of rest) k.lines;
      bounds = subst AreWithinBounds same k.bounds;
      stands = stands_paid d (drop 1 xs) rest st more none can stands;
    }

-- what is owed, when the first is taken
pub popped : {A : Type 0} (xs ys : List A) (x : A) → xs ≡ ys ++ x ∷ [] → reverse xs ≡ x ∷ reverse ys
popped xs ys x is = ap reverse is ∙ reverse-append ys (x ∷ [])

none_left_is : (es : List Entry) → (length es == 0) ≡ is_none_left es
none_left_is [] = refl
none_left_is (e ∷ es) = false_from_ne_true (length (e ∷ es) == 0) (λ is. omega (arith, eqb-true (length (e ∷ es)) 0 is))

are_left_is : (es : List Entry) → not (length es == 0) ≡ are_left es
are_left_is [] = refl
are_left_is (e ∷ es) = ap not (none_left_is (e ∷ es))

entries_count : (xs : List Owed) → length xs ≡ length (entries_of (reverse xs))
entries_count xs = sym (length-map (reverse xs) owed_entry ∙ length-reverse xs)

-- whether more is owed
pub no_owed_left : (xs : List Owed) → (length xs == 0) ≡ is_none_left (entries_of (reverse xs))
no_owed_left xs = ap (λ (n : ℕ). n == 0) (entries_count xs) ∙ none_left_is (entries_of (reverse xs))

pub more_left : (xs : List Owed) → not (length xs == 0) ≡ are_left (entries_of (reverse xs))
more_left xs = ap (λ (n : ℕ). not (n == 0)) (entries_count xs) ∙ are_left_is (entries_of (reverse xs))

no_more : (xs : List Owed) → not (length xs == 0) ≡ false → reverse xs ≡ []
no_more [] none = refl
no_more (x ∷ xs) none = absurd (omega (arith, eqb-true (length (x ∷ xs)) 0 (not-false (length (x ∷ xs) == 0) none)))

-- the next one is taken from the end of the lists
pub record Pays (x : Inside) (d : Ledger) (vs : List Coming) (ys : List Owed) (o : Owed) (more : Bool) : Type 0 where
  pub core : IsCore x
  pub can : can_pay x.standing ≡ true
  pub owed : x.owed.items ≡ ys ++ o ∷ []
  pub coming : reverse vs ≡ drop 1 (reverse x.coming.items)
  pub added : IsAdded x.ledger d (reverse x.coming.items) o.act
  pub more_is : more ≡ not (length ys == 0)

kept_pays : (x : Inside) (d : Ledger) (vs : List Coming) (ys : List Owed) (o : Owed) (more : Bool) → Pays x d vs ys o more → IsKept d (reverse vs) (reverse ys) (standing_paid x.standing more)
kept_pays x d vs ys o more p =
    let c = x.ledger in
    let us = reverse x.coming.items in
    let st = x.standing in
    subst (λ (ps : List Coming). IsKept d ps (reverse ys) (standing_paid st more)) (sym p.coming)
    (kept_paid c d us o (reverse ys) st more (λ none. no_more ys (sym p.more_is ∙ none)) (subst (λ (os : List Owed). IsKept c us os st) (popped x.owed.items ys o p.owed) p.core.kept) p.can p.added)

seen_pays : (x : Inside) (d : Ledger) (vs : List Coming) (ys : List Owed) (o : Owed) (more : Bool) → Pays x d vs ys o more → seen d (reverse vs) (reverse ys) (standing_paid x.standing more) ≡ paid (view_of x)
seen_pays x d vs ys o more p =
    let c = x.ledger in
    let us = reverse x.coming.items in
    let st = x.standing in
    ap₂ (λ (s : Setting) (h : List Entry). let v : CoreView = record (seen d (reverse vs) (reverse ys) (standing_paid st more)) { setting = s; past = h } in v) p.added.setting p.added.past
    ∙ ap₂ (λ (ps : List Stream) (b : Bool). paid_to c us ps b) (ap parts_of p.coming ∙ parts_left us) (p.more_is ∙ more_left ys)
    ∙ ap (λ (os : List Owed). paid (seen c us os st)) (sym (popped x.owed.items ys o p.owed))
  where
    paid_to : Ledger → List Coming → List Stream → Bool → CoreView
    paid_to c us ps b = record {
      setting = setting_after (setting_of c) (parts_of us);
      past = owed_entry o ∷ past_of c;
      coming = ps;
      owed = entries_of (reverse ys);
      standing = standing_paid x.standing b;
    }

some_owed : (x : Inside) (ys : List Owed) (o : Owed) → x.owed.items ≡ ys ++ o ∷ [] → 0 < length (entries_of (reverse x.owed.items))
some_owed x ys o is = subst (λ (os : List Owed). 0 < length (entries_of os)) (sym (popped x.owed.items ys o is)) (omega arith)

pub core_paid : (x : Inside) (d : Ledger) (vs : Vec Coming Global) (ys : Vec Owed Global) (o : Owed) (more : Bool) (to : Standing) → Pays x d vs.items ys.items o more → to ≡ standing_paid x.standing more
    → IsCoreOf (paid (view_of x)) (record x { ledger = d; coming = vs; owed = ys; standing = to })
core_paid x d vs ys o more to p is =
    subst (λ (st : Standing). IsCoreOf (paid (view_of x)) (record x { ledger = d; coming = vs; owed = ys; standing = st })) (sym is)
    (core_of (paid (view_of x)) (record x { ledger = d; coming = vs; owed = ys; standing = standing_paid x.standing more })
    (kept_pays x d vs.items ys.items o more p) (seen_pays x d vs.items ys.items o more p)
    (accounts_paid x.criteria (view_of x) (some_owed x ys.items o p.owed) p.core.seen))

-- what is owed is given up

stands_forgotten : (c : Ledger) (xs : List Coming) (owed : List Owed) (st : Standing) → StandsSo c xs owed st → StandsSo c [] [] (standing_forgotten st)
stands_forgotten c xs owed Whole s = (record { keeps = s.0.keeps; settles = s.1; room = s.0.keeps.rests.room; payable = refl }, s.1)
stands_forgotten c xs owed Paying s = (left_of c (costs owed) s.keeps s.room, none_first (setting_of c) (past_of c))
stands_forgotten c xs owed Left s = (s.0, none_first (setting_of c) (past_of c))

kept_forgotten : (c : Ledger) (xs : List Coming) (owed : List Owed) (st : Standing) → IsKept c xs owed st → IsKept c [] [] (standing_forgotten st)
kept_forgotten c xs owed st k = record {
  last = k.last;
  in_time = k.in_time;
  written = tt;
  lines = omega arith;
  bounds = bounds_before (setting_of c) (parts_of xs) k.bounds;
  stands = stands_forgotten c xs owed st k.stands;
}

pub core_forgotten : (x : Inside) (vs : Vec Coming Global) (ys : Vec Owed Global) (to : Standing) → IsCore x → vs.items ≡ [] → ys.items ≡ [] → to ≡ standing_forgotten x.standing
    → IsCoreOf (forgotten (view_of x)) (record x { coming = vs; owed = ys; standing = to })
core_forgotten x vs ys to core no_coming no_owed is =
    let c = x.ledger in
    let kept : IsKept c [] [] (standing_forgotten x.standing) = kept_forgotten c (reverse x.coming.items) (reverse x.owed.items) x.standing core.kept in
    core_of (forgotten (view_of x)) (record x { coming = vs; owed = ys; standing = to })
    (subst (λ (st : Standing). IsKept c (reverse vs.items) (reverse ys.items) st) (sym is)
    (subst (λ (us : List Coming). IsKept c (reverse us) (reverse ys.items) (standing_forgotten x.standing)) (sym no_coming)
    (subst (λ (xs : List Owed). IsKept c [] (reverse xs) (standing_forgotten x.standing)) (sym no_owed) kept)))
    (ap₂ (λ (us : List Coming) (xs : List Owed). seen c (reverse us) (reverse xs) to) no_coming no_owed ∙ ap (λ (st : Standing). seen c [] [] st) is)
    (accounts_forgotten x.criteria (view_of x) core.seen)
