-- Words spell one command at most.
use Rattle.std.proofs.Common.{◌≡◌, ◌∙◌, ◌<◌, ◌^◌, ℕ, Bool, refl, sym, ap, ap₂, subst, arith, List, ◌∷◌, Option, Some, None}
use Rattle.std.proofs.lemmas.Fmt.{decimal_injective}
use Rattle.clap.specs.Walk.{Text}
use Rattle.esm_cli.specs.Spelling.{Given, AreOptions}
use Rattle.esm_cli.specs.Tables.{listing, options_of, verb_name, verb_named}
use Rattle.esm_cli.specs.Words.{IsCommand, IsNumber, IsNumberFrom, IsRun, IsSaid, IsWhich, Values, flags_in, spells, values_in, verb_of}
use Rattle.esm_cli.specs.declared.command.Command.{Command}
use Rattle.esm_cli.specs.declared.command.Command.TheVariants.{Init, Run, Show, Failures, Gen, Compact, Serve, Migrate, Ddb, Redrive, Replay}
use Rattle.esm_cli.specs.declared.command.Flags.{Flags}
use Rattle.esm_cli.specs.declared.command.RunWords.{RunWords}
use Rattle.esm_cli.specs.declared.command.Which.{Which}
use Rattle.esm_cli.specs.declared.command.Which.TheVariants.{Config, Mapping}
use Rattle.esm_cli.specs.declared.table.NumberRule.{NumberRule}
use Rattle.esm_cli.specs.declared.table.TheConstants.{CALLS, VISIBILITY, TIMEOUT, RECORDS, REQUESTS, MAX_RECEIVES}
use Rattle.esm_cli.specs.declared.table.Verb.{Verb}
use Rattle.esm_cli.specs.declared.table.Verb.TheVariants as verb
use Rattle.esm_cli.proofs.Spelled.{same_options}
use Rattle.esm_cli.proofs.WordKinds.{AreNamedWell}

-- each name is one command's

pub named_verb : (v : Verb) → verb_named (verb_name v) ≡ Some v
named_verb verb.Init = refl
named_verb verb.Run = refl
named_verb verb.Show = refl
named_verb verb.Failures = refl
named_verb verb.Gen = refl
named_verb verb.Compact = refl
named_verb verb.Serve = refl
named_verb verb.Migrate = refl
named_verb verb.Ddb = refl
named_verb verb.Redrive = refl
named_verb verb.Replay = refl

same_head : (a b : Text) (xs ys : List Text) → a ∷ xs ≡ b ∷ ys → a ≡ b
same_head a b xs ys e = cc

same_tail : (a b : Text) (xs ys : List Text) → a ∷ xs ≡ b ∷ ys → xs ≡ ys
same_tail a b xs ys e = cc

same_some : (v w : Verb) → Some v ≡ Some w → v ≡ w
same_some v w e = cc

pub same_verb : (v w : Verb) → verb_name v ≡ verb_name w → v ≡ w
same_verb v w e = same_some v w (sym (named_verb v) ∙ ap verb_named e ∙ named_verb w)

-- each option has a name that can be spelled

pub named_well : (v : Verb) → AreNamedWell (listing (options_of v))
named_well verb.Run = refl
named_well verb.Gen = refl
named_well verb.Serve = refl
named_well verb.Ddb = refl
named_well verb.Redrive = refl
named_well verb.Replay = refl
named_well _ = refl

-- the words spell one list of options, of one command
pub same_given : (words : List Text) (v w : Verb) (gs ds : List Given) → IsCommand v gs words → IsCommand w ds words → (v ≡ w) × (gs ≡ ds)
same_given words v w gs ds a b =
    let whole : verb_name v ∷ a.rest ≡ verb_name w ∷ b.rest = sym a.first ∙ b.first in
    let verb : v ≡ w = same_verb v w (same_head (verb_name v) (verb_name w) a.rest b.rest whole) in
    let rest : a.rest ≡ b.rest = same_tail (verb_name v) (verb_name w) a.rest b.rest whole in
    let other : AreOptions (listing (options_of v)) ds a.rest =
    subst (λ x. AreOptions (listing (options_of x)) ds a.rest) (sym verb) (subst (λ ws. AreOptions (listing (options_of w)) ds ws) (sym rest) b.others) in
    (verb, same_options (listing (options_of v)) a.rest gs ds (named_well v) a.others other)

-- the options say one command

abbrev IsSmall : NumberRule → Type 0
IsSmall rule = rule.greatest < 2 ^ 32

small_number : (rule : NumberRule) (o : Option Text) (n m : ℕ) → IsSmall rule → IsNumberFrom rule o n → IsNumberFrom rule o m → n ≡ m
small_number rule (Some text) n m small a b = decimal_injective n m (omega (arith, a.2)) (omega (arith, b.2)) (sym a.0 ∙ b.0)
small_number rule None n m small a b = (let both : Some n ≡ Some m = sym a ∙ b in cc)

pub one_number : (rule : NumberRule) (value : Values) (n m : ℕ) → IsSmall rule → IsNumber rule value n → IsNumber rule value m → n ≡ m
one_number rule value n m small a b = small_number rule (value rule.option) n m small a b

one_text : (o : Option Text) (a b : Text) → o ≡ Some a → o ≡ Some b → a ≡ b
one_text o a b p q = (let both : Some a ≡ Some b = sym p ∙ q in cc)

one_which : (value : Values) (w v : Which) → IsWhich value w → IsWhich value v → w ≡ v
one_which value (Config a) (Config b) p q = ap Config (one_text _ a b p.0 q.0)
one_which value (Config a) (Mapping id) p q = absurd (let both : Some a ≡ None = sym p.0 ∙ q.0 in cc)
one_which value (Mapping id) (Config b) p q = absurd (let both : Some b ≡ None = sym q.0 ∙ p.0 in cc)
one_which value (Mapping a) (Mapping b) p q = ap Mapping (one_text _ a b p.1 q.1)

abbrev words_of : Which → ℕ → ℕ → ℕ → Bool → Bool → RunWords
words_of which calls visibility timeout read_first trace =
    record { which = which; calls = calls; visibility = visibility; timeout = timeout; read_first = read_first; trace = trace }

one_run : (value : Values) (flags : Flags) (r q : RunWords) → IsRun value flags r → IsRun value flags q → r ≡ q
one_run value flags r q a b =
    ap (λ w. words_of w r.calls r.visibility r.timeout r.read_first r.trace) (one_which value r.which q.which a.which b.which)
    ∙ ap (λ n. words_of q.which n r.visibility r.timeout r.read_first r.trace) (one_number CALLS value r.calls q.calls (omega arith) a.calls b.calls)
    ∙ ap (λ n. words_of q.which q.calls n r.timeout r.read_first r.trace) (one_number VISIBILITY value r.visibility q.visibility (omega arith) a.visibility b.visibility)
    ∙ ap (λ n. words_of q.which q.calls q.visibility n r.read_first r.trace) (one_number TIMEOUT value r.timeout q.timeout (omega arith) a.timeout b.timeout)
    ∙ ap₂ (words_of q.which q.calls q.visibility q.timeout) (a.read_first ∙ sym b.read_first) (a.trace ∙ sym b.trace)

pub one_said : (value : Values) (flags : Flags) (c d : Command) → verb_of c ≡ verb_of d → IsSaid value flags c → IsSaid value flags d → c ≡ d
one_said value flags Init Init e a b = refl
one_said value flags (Run r) (Run q) e a b = ap Run (one_run value flags r q a b)
one_said value flags Show Show e a b = refl
one_said value flags Failures Failures e a b = refl
one_said value flags (Gen n) (Gen m) e a b = ap Gen (one_number RECORDS value n m (omega arith) a b)
one_said value flags Compact Compact e a b = refl
one_said value flags (Serve n) (Serve m) e a b = ap Serve (one_number REQUESTS value n m (omega arith) a b)
one_said value flags Migrate Migrate e a b = refl
one_said value flags (Ddb s n p x) (Ddb t m q y) e a b =
    ap₂ (λ c k. Ddb c k p x) (one_text _ s t a.0 b.0) (one_number CALLS value n m (omega arith) a.1 b.1)
    ∙ ap₂ (Ddb t m) (one_number TIMEOUT value p q (omega arith) a.2 b.2) (a.3 ∙ sym b.3)
one_said value flags (Redrive s r n v p x) (Redrive t k m w q y) e a b =
    ap₂ (λ c l. Redrive c l n v p x) (one_text _ s t a.0 b.0) (one_number MAX_RECEIVES value r k (omega arith) a.1 b.1)
    ∙ ap₂ (λ l u. Redrive t k l u p x) (one_number CALLS value n m (omega arith) a.2 b.2) (one_number VISIBILITY value v w (omega arith) a.3 b.3)
    ∙ ap₂ (Redrive t k m w) (one_number TIMEOUT value p q (omega arith) a.4 b.4) (a.5 ∙ sym b.5)
one_said value flags (Replay s n p x) (Replay t m q y) e a b =
    ap₂ (λ c k. Replay c k p x) (one_text _ s t a.0 b.0) (one_number CALLS value n m (omega arith) a.1 b.1)
    ∙ ap₂ (Replay t m) (one_number TIMEOUT value p q (omega arith) a.2 b.2) (a.3 ∙ sym b.3)
one_said value flags c d e a b = absurd (cc)

pub one_command : (words : List Text) (c d : Command) → spells words c → spells words d → c ≡ d
one_command words c d one other =
    let same = same_given words (verb_of c) (verb_of d) one.0 other.0 one.1 other.1 in
    one_said (values_in one.0) (flags_in one.0) c d same.0 one.2
    (subst (λ gs. IsSaid (values_in gs) (flags_in gs) d) (sym same.1) other.2)
