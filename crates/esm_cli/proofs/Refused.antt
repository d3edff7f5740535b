-- Why words spell no command.
use Rattle.std.proofs.Common.{◌≡◌, ◌∙◌, ◌||◌, ◌<◌, ◌≤◌, ◌^◌, ℕ, Bool, cond, true, false, refl, sym, ap, subst, arith, List, [], ◌∷◌, length, map, drop, Option, Some, None, Result, Ok, Err, IfOk, IfSome, IsOk, true≢false, is_some}
use Rattle.std.specs.Prelude.{find, slice_get, ◌↔◌}
use Rattle.std.specs.List.{list_any}
use Rattle.std.specs.Str.{bytes_eq}
use Rattle.std.specs.Result.{result_ok}
use Rattle.std.specs.Fmt.{decimal}
use Rattle.std.proofs.lemmas.Fmt.{decimal_injective}
use Rattle.std.proofs.lemmas.Slice.Eq.{bytes_eq-Decides}
use Rattle.clap.specs.Walk.{Text}
use Rattle.uuid.specs.Text.{parsed, parsed_hyphenated}
use Rattle.esm_cli.specs.Spelling.{Given, AreOptions, is_stray_dash}
use Rattle.esm_cli.specs.Tables.{listing, options_of, verb_name, verb_named, verbs}
use Rattle.esm_cli.specs.Words.{IsCommand, IsNumberFrom, IsSaid, Values, flags_in, spells, values_in, verb_of}
use Rattle.esm_cli.specs.declared.command.Command.{Command}
use Rattle.esm_cli.specs.declared.command.Flags.{Flags}
use Rattle.esm_cli.specs.declared.table.NumberRule.{NumberRule}
use Rattle.esm_cli.specs.declared.table.Verb.{Verb}
use Rattle.esm_cli.specs.declared.table.Verb.TheVariants as verb
use Rattle.esm_cli.proofs.OneCommand.{named_well, same_given, same_verb}
use Rattle.esm_cli.proofs.Spelled.{clean_spelled}

-- a number past its bounds
pub outside : (rule : NumberRule) (o : Option Text) (text : Text) (n m : ℕ) → Some text ≡ o → text ≡ decimal n → n < 2 ^ 32 → rule.greatest < 2 ^ 32
    → (rule.least ≤ n → n ≤ rule.greatest → ⊥) → IsNumberFrom rule o m → ⊥
outside rule o text n m e spelled small bound past is =
    let h : IsNumberFrom rule (Some text) m = subst (λ x. IsNumberFrom rule x m) (sym e) is in
    let same : n ≡ m = decimal_injective n m (omega arith) (omega (arith, h.2)) (sym spelled ∙ h.0) in
    past (omega (arith, h.1)) (omega (arith, h.2))

-- a UUID of 36 characters has the hyphenated form
same_form : (word : Text) → length word ≡ 36 → parsed word ≡ parsed_hyphenated word
same_form word e = rw e refl

no_form : (word : Text) (p : Option Text) → parsed word ≡ p → ((u : Text) → parsed word ≡ Some u → ⊥) → p ≡ None
no_form word None e none = refl
no_form word (Some u) e none = absurd (none u e)

pub hyphenated_is : {E : Type 0} (word : Text) (r : Result Text E) (o : Option Text) → length word ≡ 36 → o ≡ result_ok r
    → (IsOk r ↔ ((u : Text) × (parsed word ≡ Some u))) → IfOk r (λ u. Some u ≡ parsed word) → o ≡ parsed_hyphenated word
hyphenated_is word (Ok u) o long is ok bytes = is ∙ bytes ∙ same_form word long
hyphenated_is word (Err e) o long is ok bytes =
    is ∙ sym (no_form word (parsed word) refl (λ u h. true≢false (sym (ok.1 (u, h))))) ∙ same_form word long

-- the first word names a command

found_name : (word : Text) (vs : List Verb) (v : Verb) → find (λ x. bytes_eq word (verb_name x)) vs ≡ Some v → word ≡ verb_name v
found_name word [] v e = absurd (true≢false (sym (ap is_some e)))
found_name word (x ∷ vs) v e = by_test (bytes_eq word (verb_name x)) (bytes_eq-Decides word (verb_name x)).0 (found_name word vs v) e
  where
    by_test : (b : Bool) → (b ≡ true → word ≡ verb_name x) → (find (λ y. bytes_eq word (verb_name y)) vs ≡ Some v → word ≡ verb_name v)
        → cond b (Some x) (find (λ y. bytes_eq word (verb_name y)) vs) ≡ Some v → word ≡ verb_name v
    by_test true here later e = (let same : x ≡ v = cc in here refl ∙ ap verb_name same)
    by_test false here later e = later e

pub first_word : {A : Type 0} (f : A → Text) (xs : List A) (x : A) (t : Text) → slice_get xs 0 ≡ Some x → t ≡ f x → map f xs ≡ t ∷ map f (drop 1 xs)
first_word f [] x t e is = absurd (true≢false (sym (ap is_some e)))
first_word f (y ∷ ys) x t e is = (let same : y ≡ x = cc in ap (λ w. w ∷ map f ys) (ap f same ∙ sym is))

pub first_named : (words : List Text) (word : Text) (rest : List Text) (o : Option Verb) → words ≡ word ∷ rest → o ≡ verb_named word
    → IfSome o (λ v. (others : List Text) × (words ≡ verb_name v ∷ others))
first_named words word rest None first is = tt
first_named words word rest (Some v) first is = (rest, first ∙ ap (λ w. w ∷ rest) (found_name word verbs v (sym is)))

-- a word with a stray dash

plain_verb : (v : Verb) → is_stray_dash (verb_name v) ≡ false
plain_verb verb.Init = refl
plain_verb verb.Run = refl
plain_verb verb.Show = refl
plain_verb verb.Failures = refl
plain_verb verb.Gen = refl
plain_verb verb.Compact = refl
plain_verb verb.Serve = refl
plain_verb verb.Migrate = refl
plain_verb verb.Ddb = refl
plain_verb verb.Redrive = refl
plain_verb verb.Replay = refl

pub stray_none : (words : List Text) → list_any is_stray_dash words ≡ true → (command : Command) → spells words command → ⊥
stray_none words stray c s =
    let v = verb_of c in
    true≢false (sym stray ∙ ap (list_any is_stray_dash) s.1.first ∙ ap (λ b. b || list_any is_stray_dash s.1.rest) (plain_verb v)
    ∙ clean_spelled (listing (options_of v)) s.0 s.1.rest (named_well v) s.1.others.listed s.1.others.spelled)

-- the first word names no command
pub unnamed : (words : List Text) → ((v : Verb) (rest : List Text) → words ≡ verb_name v ∷ rest → ⊥) → (command : Command) → spells words command → ⊥
unnamed words none c s = none (verb_of c) s.1.rest s.1.first

-- the command of the words, where its name is known
pub options_of_words : (words : List Text) (v w : Verb) (rest : List Text) (gs : List Given) → words ≡ verb_name v ∷ rest → IsCommand w gs words
    → (v ≡ w) × AreOptions (listing (options_of v)) gs (drop 1 words)
options_of_words words v w rest gs first is =
    let whole : verb_name v ∷ rest ≡ verb_name w ∷ is.rest = sym first ∙ is.first in
    let name : verb_name v ≡ verb_name w = cc in
    let verb : v ≡ w = same_verb v w name in (
      verb,
      subst (λ x. AreOptions (listing (options_of x)) gs (drop 1 words)) (sym verb)
          (subst (AreOptions (listing (options_of w)) gs) (sym (ap (drop 1) is.first)) is.others),
    )

pub no_options : (words : List Text) (v : Verb) (rest : List Text) → words ≡ verb_name v ∷ rest
    → ((gs : List Given) → AreOptions (listing (options_of v)) gs (drop 1 words) → ⊥) → (command : Command) → spells words command → ⊥
no_options words v rest first none c s = none s.0 (options_of_words words v (verb_of c) rest s.0 first s.1).1

pub as_command : (words : List Text) (v : Verb) (rest : List Text) (gs : List Given) → words ≡ verb_name v ∷ rest
    → AreOptions (listing (options_of v)) gs (drop 1 words) → IsCommand v gs words
as_command words v rest gs first options = record { rest = rest; first = first; others = subst (AreOptions (listing (options_of v)) gs) (ap (drop 1) first) options }

-- the options say the command
pub said_command : (words : List Text) (v : Verb) (rest : List Text) (gs : List Given) (value : Values) (flags : Flags) (c : Command) → words ≡ verb_name v ∷ rest
    → AreOptions (listing (options_of v)) gs (drop 1 words) → values_in gs ≡ value → flags_in gs ≡ flags → verb_of c ≡ v → IsSaid value flags c → spells words c
said_command words v rest gs value flags c first options values reads verb said = (
  gs,
  subst (λ x. IsCommand x gs words) (sym verb) (as_command words v rest gs first options),
  subst (λ b. IsSaid (values_in gs) b c) (sym reads) (subst (λ x. IsSaid x flags c) (sym values) said),
)

-- the options say no command
pub unsaid : (words : List Text) (v : Verb) (rest : List Text) (gs : List Given) (value : Values) (flags : Flags) → words ≡ verb_name v ∷ rest
    → AreOptions (listing (options_of v)) gs (drop 1 words) → values_in gs ≡ value → flags_in gs ≡ flags
    → ((c : Command) → verb_of c ≡ v → IsSaid value flags c → ⊥) → (command : Command) → spells words command → ⊥
unsaid words v rest gs value flags first options values reads none c s =
    let mine : IsCommand v gs words = as_command words v rest gs first options in
    let same = same_given words v (verb_of c) gs s.0 mine s.1 in
    let theirs : IsSaid (values_in gs) (flags_in gs) c = subst (λ ds. IsSaid (values_in ds) (flags_in ds) c) (sym same.1) s.2 in
    none c (sym same.0) (subst (λ x. IsSaid x flags c) values (subst (λ b. IsSaid (values_in gs) b c) reads theirs))
