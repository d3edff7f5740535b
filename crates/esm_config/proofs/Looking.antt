-- Looking a member up by its name.
use Rattle.std.proofs.Common.{◌≡◌, ◌∙◌, ℕ, ◌≤◌, arith, true, false, cond, refl, sym, ap, List, [], ◌∷◌, length, get_or, take, drop, ◌-◌, Option, Some, bytes_eq, Ordering, Less, Equal, Greater, nat_cmp, is_eq}
use Rattle.std.proofs.lemmas.Map.Text.{is_eq-slice_cmp}
use Rattle.std.specs.Ordering.{match_ordering}
use Rattle.std.specs.Cmp.Lexicographic.{slice_cmp}
use Rattle.serde_json.specs.Data.{Data, Members, member}
use Rattle.serde_json.specs.Find.{get_member}
use Rattle.serde_json.specs.View.{view}
use Rattle.esm_config.specs.Member.{members_of}
use Rattle.esm_config.specs.declared.member.Member.{Member}

at_order : (o : Ordering) (d : Data) (later : Option Data) → match_ordering o later (Some d) later ≡ cond (is_eq o) (Some d) later
at_order Less d later = refl
at_order Equal d later = refl
at_order Greater d later = refl

pub get_first : (name k : List ℕ) (d : Data) (ms : Members) → get_member name (member k d ms) ≡ cond (bytes_eq name k) (Some d) (get_member name ms)
get_first name k d ms =
    at_order (slice_cmp nat_cmp name k) d (get_member name ms) ∙ ap (λ b. cond b (Some d) (get_member name ms)) (is_eq-slice_cmp name k)

pub get_here : (name k : List ℕ) (d : Data) (ms : Members) → bytes_eq name k ≡ true → get_member name (member k d ms) ≡ Some d
get_here name k d ms e = get_first name k d ms ∙ ap (λ b. cond b (Some d) (get_member name ms)) e

pub get_later : (name k : List ℕ) (d : Data) (ms : Members) → bytes_eq name k ≡ false → get_member name (member k d ms) ≡ get_member name ms
get_later name k d ms e = get_first name k d ms ∙ ap (λ b. cond b (Some d) (get_member name ms)) e

take_all : {X : Type 0} (xs : List X) → take (length xs) xs ≡ xs
take_all [] = refl
take_all (x ∷ xs) = ap (λ ys. x ∷ ys) (take_all xs)

pub later_in : (ms : List Member) (m : Member) (name : List ℕ) → 1 ≤ length ms → m ≡ get_or ms 0 m → bytes_eq name m.name.now ≡ false
    → get_member name (members_of ms) ≡ get_member name (members_of (take (length ms - 1) (drop 1 ms)))
later_in [] m name some is e = absurd (omega arith)
later_in (x ∷ ms) m name some is e =
    let other : bytes_eq name x.name.now ≡ false = sym (ap (λ (y : Member). bytes_eq name y.name.now) is) ∙ e in
    let n : length (x ∷ ms) - 1 ≡ length ms = omega arith in
    get_later name x.name.now (view x.value) (members_of ms) other
    ∙ ap (λ (ys : List Member). get_member name (members_of ys)) (sym (ap (λ k. take k ms) n ∙ take_all ms))
