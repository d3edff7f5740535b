-- Members one after another, as they are pushed.
use Rattle.std.proofs.Common.{◌≡◌, ◌∙◌, false, refl, ap, List, [], ◌∷◌, ◌++◌, Option, Some, None}
use Rattle.serde_json.specs.Data.{Data, Members, no_members, member}
use Rattle.serde_json.specs.View.{view}
use Rattle.serde_json.specs.Written.{has_float, members_have_float}
use Rattle.std.proofs.lemmas.Bool.{or_parts, or_from}
use Rattle.esm_config.specs.Member.{and_members, members_of}
use Rattle.esm_config.specs.Text.{with, with_some}
use Rattle.esm_config.specs.declared.member.Member.{Member}
use Rattle.esm_config.specs.declared.param.Param.{Param}

pub members_of_push : (ms : List Member) (m : Member) → members_of (ms ++ m ∷ []) ≡ and_members (members_of ms) (member m.name.now (view m.value) no_members)
members_of_push [] m = refl
members_of_push (x ∷ ms) m = ap (member x.name.now (view x.value)) (members_of_push ms m)

pub and_none : (ms : Members) → and_members ms no_members ≡ ms
and_none no_members = refl
and_none (member k d ms) = ap (member k d) (and_none ms)

pub and_assoc : (a b c : Members) → and_members (and_members a b) c ≡ and_members a (and_members b c)
and_assoc no_members b c = refl
and_assoc (member k d a) b c = ap (member k d) (and_assoc a b c)

pub and_with_some : (p : Param) (o : Option Data) (more : Members) → and_members (with_some p o no_members) more ≡ with_some p o more
and_with_some p None more = refl
and_with_some p (Some d) more = refl

pub and_float : (a b : Members) → members_have_float a ≡ false → members_have_float b ≡ false → members_have_float (and_members a b) ≡ false
and_float no_members b ha hb = hb
and_float (member k d a) b ha hb =
    let p = or_parts (has_float d) (members_have_float a) ha in
    or_from (has_float d) (members_have_float (and_members a b)) p.0 (and_float a b p.1 hb)

-- one more part each time
pub two_more : (b m1 m2 x1 x2 : Members) → m1 ≡ and_members b x1 → m2 ≡ and_members m1 x2 → m2 ≡ and_members b (and_members x1 x2)
two_more b m1 m2 x1 x2 e1 e2 = e2 ∙ (ap (λ m. and_members m x2) e1 ∙ and_assoc b x1 x2)

pub three_more : (b m1 m2 m3 x1 x2 x3 : Members) → m1 ≡ and_members b x1 → m2 ≡ and_members m1 x2 → m3 ≡ and_members m2 x3
    → m3 ≡ and_members b (and_members x1 (and_members x2 x3))
three_more b m1 m2 m3 x1 x2 x3 e1 e2 e3 = two_more b m1 m3 x1 (and_members x2 x3) e1 (two_more m1 m2 m3 x2 x3 e2 e3)

pub five_more : (b m1 m2 m3 m4 m5 x1 x2 x3 x4 x5 : Members) → m1 ≡ and_members b x1 → m2 ≡ and_members m1 x2 → m3 ≡ and_members m2 x3 → m4 ≡ and_members m3 x4 → m5 ≡ and_members m4 x5
    → m5 ≡ and_members b (and_members x1 (and_members x2 (and_members x3 (and_members x4 x5))))
five_more b m1 m2 m3 m4 m5 x1 x2 x3 x4 x5 e1 e2 e3 e4 e5 =
    three_more b m1 m2 m5 x1 x2 (and_members x3 (and_members x4 x5)) e1 e2 (three_more m2 m3 m4 m5 x3 x4 x5 e3 e4 e5)

pub eight_more : (b m1 m2 m3 m4 m5 m6 m7 m8 x1 x2 x3 x4 x5 x6 x7 x8 : Members)
    → m1 ≡ and_members b x1 → m2 ≡ and_members m1 x2 → m3 ≡ and_members m2 x3 → m4 ≡ and_members m3 x4
    → m5 ≡ and_members m4 x5 → m6 ≡ and_members m5 x6 → m7 ≡ and_members m6 x7 → m8 ≡ and_members m7 x8
    → m8 ≡ and_members b (and_members x1 (and_members x2 (and_members x3 (and_members x4 (and_members x5 (and_members x6 (and_members x7 x8)))))))
eight_more b m1 m2 m3 m4 m5 m6 m7 m8 x1 x2 x3 x4 x5 x6 x7 x8 e1 e2 e3 e4 e5 e6 e7 e8 =
    five_more b m1 m2 m3 m4 m8 x1 x2 x3 x4 (and_members x5 (and_members x6 (and_members x7 x8))) e1 e2 e3 e4
    (two_more m4 m5 m8 x5 (and_members x6 (and_members x7 x8)) e5 (three_more m5 m6 m7 m8 x6 x7 x8 e6 e7 e8))

-- a value that is another

pub at_value : (b m : Members) (p : Param) (d e : Data) → m ≡ and_members b (with p d no_members) → d ≡ e → m ≡ and_members b (with p e no_members)
at_value b m p d e h is = h ∙ ap (λ x. and_members b (with p x no_members)) is

pub at_some : (b m : Members) (p : Param) (o u : Option Data) → m ≡ and_members b (with_some p o no_members) → o ≡ u → m ≡ and_members b (with_some p u no_members)
at_some b m p o u h is = h ∙ ap (λ x. and_members b (with_some p x no_members)) is
