-- What is kept stays true where entries are decided on.
use Rattle.std.proofs.Common.{◌≡◌, true, List, [], ◌∷◌, ◌++◌, reverse, length, refl, sym, ap, ap₂, ◌∙◌, subst, arith, Vec, Global}
use Rattle.std.proofs.lemmas.List.{length-reverse, length-map}
use Rattle.esm_model.specs.declared.entry.Entry.{Entry}
use Rattle.esm_model.specs.Setting.{Setting, Stream}
use Rattle.esm_model.specs.Entries.{last_moment}
use Rattle.esm_ledger.specs.declared.ledger.Ledger.{Ledger}
use Rattle.esm_ledger.specs.declared.coming.Coming.{Coming}
use Rattle.esm_ledger.specs.Ledger.{past_of, setting_of, Keeps}
use Rattle.esm_outcome.specs.Ending.{SettledOver}
use Rattle.esm_record_bounds.specs.Bounds.{AreWithinBounds, AreCountedInFourBytes}
use Rattle.esm_stream_core.specs.declared.owed.Owed.{Owed}
use Rattle.esm_stream_core.specs.declared.standing.Standing.{Standing}
use Rattle.esm_stream_core.specs.declared.standing.Standing.TheVariants.{Whole, Paying, Left}
use Rattle.esm_stream_core.specs.CoreView.{CoreView, setting_with, LegalAhead, SettledAhead, owing, forgotten}
use Rattle.esm_stream_core.specs.declared.stream_core.StreamCore.TheInside.{Inside}
use Rattle.esm_stream_core.specs.Inside.{view_of, BringsNone, BringAll, IsAccounted, IsCore}
use Rattle.esm_stream_core.specs.Kept.{MayAdd, IsLedgerOf, Stands, StandsSo, IsKept, Decides, IsSame}
use Rattle.esm_stream_core.specs.Standing.{standing_forgotten, is_whole}
use Rattle.esm_stream_core.specs.Acts.{owed_entry, entries_of, parts_of, AreWritten}
use Rattle.esm_stream_core.proofs.Bringing.{rests_brought}
use Rattle.esm_stream_core.proofs.Settling.{legal_ahead, settled_ahead, bounds_before}
use Rattle.esm_stream_core.proofs.Keeping.{accounts_owing, IsCoreOf, core_of}
use Rattle.esm_stream_core.proofs.Paying.{seen}

-- nothing is owed, and nothing coming

none_owed : (xs : List Owed) → entries_of (reverse xs) ≡ [] → xs ≡ []
none_owed [] is = refl
none_owed (x ∷ xs) is =
    let long : length (entries_of (reverse (x ∷ xs))) ≡ 0 = ap (λ (es : List Entry). length es) is in
    absurd (omega (arith, long, length-map (reverse (x ∷ xs)) owed_entry, length-reverse (x ∷ xs)))

none_coming : (us : List Coming) → reverse us ≡ [] → us ≡ []
none_coming [] is = refl
none_coming (x ∷ us) is =
    let long : length (reverse (x ∷ us)) ≡ 0 = ap (λ (ys : List Coming). length ys) is in
    absurd (omega (arith, long, length-reverse (x ∷ us)))

pub whole_of : (c : Ledger) (xs : List Coming) (owed : List Owed) (st : Standing) → StandsSo c xs owed st → is_whole st ≡ true → Stands c xs owed × SettledOver (setting_of c) (past_of c)
whole_of c xs owed Whole s whole = s
whole_of c xs owed Paying s whole = absurd (cc)
whole_of c xs owed Left s whole = absurd (cc)

pub stands_whole : (c : Ledger) (xs : List Coming) (owed : List Owed) (st : Standing) → is_whole st ≡ true → Stands c xs owed × SettledOver (setting_of c) (past_of c) → StandsSo c xs owed st
stands_whole c xs owed Whole whole s = s
stands_whole c xs owed Paying whole s = absurd (cc)
stands_whole c xs owed Left whole s = absurd (cc)

forgotten_whole : (st : Standing) → is_whole st ≡ true → standing_forgotten st ≡ st
forgotten_whole Whole whole = refl
forgotten_whole Paying whole = absurd (cc)
forgotten_whole Left whole = absurd (cc)

-- neither is there where nothing is owed in a whole standing
pub record IsEmpty (c : Ledger) (us : List Coming) (xs : List Owed) (st : Standing) : Type 0 where
  pub coming : us ≡ []
  pub owed : xs ≡ []
  pub kept : IsKept c [] [] st

pub empty_of : (c : Ledger) (us : List Coming) (xs : List Owed) (st : Standing) → IsKept c (reverse us) (reverse xs) st → is_whole st ≡ true → entries_of (reverse xs) ≡ [] → IsEmpty c us xs st
empty_of c us xs st k whole is =
    let owed = none_owed xs is in
    let kept : IsKept c (reverse us) [] st = subst (λ (ys : List Owed). IsKept c (reverse us) (reverse ys) st) owed k in
    let coming = none_coming us (whole_of c (reverse us) [] st kept.stands whole).0.payable in
    record {
      coming = coming;
      owed = owed;
      kept = subst (λ (ys : List Coming). IsKept c (reverse ys) [] st) coming kept;
    }

-- the ledger prepared what is decided

pub moved : (c d : Ledger) (P : Setting → List Entry → Type 0) → IsSame c d → P (setting_of c) (past_of c) → P (setting_of d) (past_of d)
moved c d P same p = subst (λ (h : List Entry). P (setting_of d) h) (sym same.past) (subst (λ (s : Setting). P s (past_of c)) (sym same.setting) p)

pub kept_decided : (c d : Ledger) (coming : List Coming) (owed : List Owed) (st : Standing) → IsKept c [] [] st → is_whole st ≡ true → Decides c d coming owed → IsKept d coming owed st
kept_decided c d coming owed st k whole x =
    let was = whole_of c [] [] st k.stands whole in
    let is = x.same in
    let last : d.last ≡ last_moment (past_of d) = is.keeps.rests.last in
    let same : last_moment (past_of d) ≡ last_moment (past_of c) = ap last_moment is.past in
    let before = k.last in
    let in_time = k.in_time in
    let stands : Stands d coming owed = record {
      keeps = is.keeps;
      settles = moved c d (λ (s : Setting) (h : List Entry). MayAdd s h (parts_of coming) (entries_of owed)) is x.may;
      room = x.room;
      payable = x.payable;
    } in
    record {
      last = last;
      in_time = omega (arith, last, same, before, in_time);
      written = subst (λ (s : Setting). AreWritten (setting_with s (parts_of coming)) owed) (sym is.setting) x.written;
      lines = x.lines;
      bounds = subst (λ (s : Setting). AreWithinBounds (setting_with s (parts_of coming))) (sym is.setting) x.bounds;
      stands = stands_whole d coming owed st whole (stands, moved c d SettledOver is was.1);
    }

-- where memory was taken, and no more
pub kept_prepared : (c d : Ledger) (st : Standing) → IsKept c [] [] st → is_whole st ≡ true → IsSame c d → IsKept d [] [] st
kept_prepared c d st k whole x =
    kept_decided c d [] [] st k whole (record {
      same = x;
      room = x.keeps.rests.room;
      payable = refl;
      may = (whole_of c [] [] st k.stands whole).1;
      written = tt;
      lines = omega arith;
      bounds = k.bounds;
    })

-- as it is seen

legal_decided : (d : Ledger) (coming : List Coming) (owed : List Owed) (st : Standing) → IsKept d coming owed st → is_whole st ≡ true → LegalAhead (seen d coming owed st)
legal_decided d coming owed st k whole =
    let was = whole_of d coming owed st k.stands whole in
    legal_ahead (setting_of d) (past_of d) (parts_of coming) (entries_of owed) was.0.keeps.rests.legal was.0.settles

settled_decided : (d : Ledger) (coming : List Coming) (owed : List Owed) (st : Standing) → IsKept d coming owed st → is_whole st ≡ true → SettledAhead (seen d coming owed st)
settled_decided d coming owed st k whole =
    let was = whole_of d coming owed st k.stands whole in
    settled_ahead (setting_of d) (past_of d) (parts_of coming) (entries_of owed) was.0.settles

-- what is decided by

whole_is : (st : Standing) → is_whole st ≡ true → st ≡ Whole
whole_is Whole whole = refl
whole_is Paying whole = absurd (cc)
whole_is Left whole = absurd (cc)

pub ledger_of : (v : CoreView) (x : Inside) → view_of x ≡ v → IsCore x → is_whole x.standing ≡ true → IsLedgerOf v x.ledger
ledger_of v x is core whole =
    let c = x.ledger in
    let k = core.kept in
    let was = whole_of c (reverse x.coming.items) (reverse x.owed.items) x.standing k.stands whole in
    subst (λ (w : CoreView). IsLedgerOf w c) is (record {
      whole = whole_is x.standing whole;
      keeps = was.0.keeps;
      setting = refl;
      past = refl;
      legal = was.0.keeps.rests.legal;
      settled = was.1;
      bounds = bounds_before (setting_of c) (parts_of (reverse x.coming.items)) k.bounds;
    })

-- where a decision begins
pub record Begins (v : CoreView) (x : Inside) : Type 0 where
  pub is : view_of x ≡ v
  pub none : v.owed ≡ []
  pub core : IsCore x
  pub whole : is_whole x.standing ≡ true

pub begun : (v : CoreView) (x : Inside) → view_of x ≡ v → v.owed ≡ [] → IsCore x → is_whole v.standing ≡ true → Begins v x
begun v x is none core whole = record { is = is; none = none; core = core; whole = ap (λ (w : CoreView). is_whole w.standing) is ∙ whole }

pub begun_on : (v : CoreView) (x : Inside) → Begins v x → IsLedgerOf v x.ledger
begun_on v x b = ledger_of v x b.is b.core b.whole

pub record IsSound (c : Ledger) : Type 0 where
  pub keeps : Keeps c
  pub bounds : AreWithinBounds (setting_of c)
  pub counted : AreCountedInFourBytes (past_of c)

counted_of : (c : Ledger) → Keeps c → AreCountedInFourBytes (past_of c)
counted_of c k n = (let few = k.few n in omega (arith, few))

pub begun_sound : (v : CoreView) (x : Inside) → Begins v x → IsSound x.ledger
begun_sound v x b =
    let is = ledger_of (view_of x) x refl b.core b.whole in
    record { keeps = is.keeps; bounds = is.bounds; counted = counted_of x.ledger is.keeps }

pub begun_empty : (v : CoreView) (x : Inside) → Begins v x → IsEmpty x.ledger x.coming.items x.owed.items x.standing
begun_empty v x b = empty_of x.ledger x.coming.items x.owed.items x.standing b.core.kept b.whole (ap (λ (w : CoreView). w.owed) b.is ∙ b.none)

pub begun_as : (v : CoreView) (x : Inside) (P : Setting → List Entry → Type 0) → Begins v x → P v.setting v.past → P (setting_of x.ledger) (past_of x.ledger)
begun_as v x P b p = subst (λ (w : CoreView). P w.setting w.past) (sym b.is) p

same_seen : (v : CoreView) (x : Inside) (d : Ledger) → Begins v x → IsSame x.ledger d → seen d [] [] x.standing ≡ v
same_seen v x d b same =
    let empty = begun_empty v x b in
    ap₂ (λ (s : Setting) (h : List Entry). record { setting = s; past = h; coming = []; owed = []; standing = x.standing }) same.setting same.past
    ∙ ap₂ (λ (zs : List Coming) (ys : List Owed). seen x.ledger (reverse zs) (reverse ys) x.standing) (sym empty.coming) (sym empty.owed)
    ∙ b.is

-- where nothing more is owed
pub record IsIdle (v : CoreView) : Type 0 where
  pub owes : v ≡ owing v [] []
  pub undone : forgotten v ≡ v
  pub legal : LegalAhead v
  pub settled : SettledAhead v

pub idle : (v : CoreView) (x : Inside) → Begins v x → IsIdle v
idle v x b =
    let is = begun_on v x b in
    let brought = (subst (IsAccounted x.criteria) b.is b.core.seen).brought in
    let clear : owing v [] [] ≡ v = ap₂ (λ (coming : List Stream) (es : List Entry). owing v coming es) (sym (rests_brought v.past v.coming v.owed brought b.none)) (sym b.none) in
    let stands : standing_forgotten v.standing ≡ v.standing = ap standing_forgotten is.whole ∙ sym is.whole in
    record {
      owes = sym clear;
      undone = ap (λ (st : Standing). record v { coming = []; owed = []; standing = st }) stands ∙ clear;
      legal = subst LegalAhead clear is.legal;
      settled = subst SettledAhead clear is.settled;
    }

-- all that a decision promises, of what was seen before and of the core as it is then
pub record Decided (v : CoreView) (y : Inside) (coming : List Stream) (es : List Entry) : Type 0 where
  pub core : IsCore y
  pub owes : view_of y ≡ owing v coming es
  pub undone : forgotten (view_of y) ≡ v
  pub legal : LegalAhead (view_of y)
  pub settled : SettledAhead (view_of y)

pub decided : (v : CoreView) (x : Inside) (d : Ledger) (zs : Vec Coming Global) (ys : Vec Owed Global) (coming : List Coming) (owed : List Owed)
    → Begins v x → reverse zs.items ≡ coming → reverse ys.items ≡ owed → Decides x.ledger d coming owed → BringAll v.past (parts_of coming) (entries_of owed)
    → Decided v (record x { ledger = d; coming = zs; owed = ys }) (parts_of coming) (entries_of owed)
decided v x d zs ys coming owed b order_coming order_owed decides brought =
    let st = x.standing in
    let now : IsKept d coming owed st = kept_decided x.ledger d coming owed st (begun_empty v x b).kept b.whole decides in
    let kept : IsKept d (reverse zs.items) (reverse ys.items) st =
    subst (λ (ps : List Coming). IsKept d ps (reverse ys.items) st) (sym order_coming) (subst (λ (os : List Owed). IsKept d coming os st) (sym order_owed) now) in
    let same : seen d [] [] st ≡ v = same_seen v x d b decides.same in
    let owes : seen d (reverse zs.items) (reverse ys.items) st ≡ owing v (parts_of coming) (entries_of owed) =
    ap₂ (λ (ps : List Coming) (os : List Owed). owing (seen d [] [] st) (parts_of ps) (entries_of os)) order_coming order_owed
    ∙ ap (λ (w : CoreView). owing w (parts_of coming) (entries_of owed)) same in
    let all = accounts_owing x.criteria v (parts_of coming) (entries_of owed) (subst (IsAccounted x.criteria) b.is b.core.seen) brought in
    record {
      core = (core_of (owing v (parts_of coming) (entries_of owed)) (record x { ledger = d; coming = zs; owed = ys }) kept owes all).core;
      owes = owes;
      undone = ap (λ (to : Standing). seen d [] [] to) (forgotten_whole st b.whole) ∙ same;
      legal = legal_decided d (reverse zs.items) (reverse ys.items) st kept b.whole;
      settled = settled_decided d (reverse zs.items) (reverse ys.items) st kept b.whole;
    }

-- one entry is owed, where none was
pub one_decided : (v : CoreView) (x : Inside) (d : Ledger) (ys : Vec Owed Global) (o : Owed)
    → Begins v x → ys.items ≡ x.owed.items ++ o ∷ [] → Decides x.ledger d [] (o ∷ []) → BringsNone (owed_entry o) → Decided v (record x { ledger = d; owed = ys }) [] (owed_entry o ∷ [])
one_decided v x d ys o b more decides none =
    let empty = begun_empty v x b in
    decided v x d x.coming ys [] (o ∷ []) b (ap reverse empty.coming) (ap reverse (more ∙ ap (λ (zs : List Owed). zs ++ o ∷ []) empty.owed)) decides (none, tt)

-- and where there is no memory
pub undecided : (v : CoreView) (x : Inside) (d : Ledger) (ys : Vec Owed Global) → Begins v x → IsSame x.ledger d → ys.items ≡ x.owed.items → IsCoreOf v (record x { ledger = d; owed = ys })
undecided v x d ys b same as_before =
    let st = x.standing in
    let empty = begun_empty v x b in
    let no_owed : ys.items ≡ [] = as_before ∙ empty.owed in
    core_of v (record x { ledger = d; owed = ys })
    (subst (λ (ps : List Coming). IsKept d (reverse ps) (reverse ys.items) st) (sym empty.coming)
    (subst (λ (os : List Owed). IsKept d [] (reverse os) st) (sym no_owed) (kept_prepared x.ledger d st empty.kept b.whole same)))
    (ap₂ (λ (ps : List Coming) (os : List Owed). seen d (reverse ps) (reverse os) st) empty.coming no_owed ∙ same_seen v x d b same)
    (subst (IsAccounted x.criteria) b.is b.core.seen)
