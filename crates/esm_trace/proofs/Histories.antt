-- One more entry of a history: its line, and the reply that it tells of.
use Rattle.std.proofs.Common.{◌≡◌, ◌∙◌, ℕ, zero, suc, ◌+◌, ◌<◌, refl, sym, ap, subst, List, [], ◌∷◌, ◌++◌, append_assoc, append-nil, length, take, get_or, slice_get, reverse, Option, Some, None, add-one, arith}
use Rattle.std.specs.List.{filter_map, flat_map, cons_option}
use Rattle.std.specs.Option.{option_to_list}
use Rattle.std.proofs.lemmas.List.{reverse-reverse}
use Rattle.esm_model.specs.declared.entry.Entry.{Entry}
use Rattle.esm_model.specs.declared.entry.Reply.{Reply}
use Rattle.esm_trace.specs.Trace.{reply_in, replies_of}

-- the text

line_more : {X : Type 0} (f : X → List ℕ) (h : List X) (i : ℕ) (e : X) → i < length h → e ≡ get_or h i e → flat_map f (take (suc i) h) ≡ flat_map f (take i h) ++ f e
line_more f [] i e below at = absurd (omega arith)
line_more f (a ∷ h) zero e below at = append-nil (f a) ∙ ap f (sym at)
line_more f (a ∷ h) (suc i) e below at =
    ap (λ rest. f a ++ rest) (line_more f h i e (omega arith) at) ∙ sym (append_assoc (f a) (flat_map f (take i h)) (f e))

pub text_goes_on : {X : Type 0} (f : X → List ℕ) (h : List X) (i : ℕ) (e : X) (start now next : List ℕ) → i < length h → e ≡ get_or h i e → now ≡ start ++ flat_map f (take i h) → next ≡ now ++ f e → next ≡ start ++ flat_map f (take (i + 1) h)
text_goes_on f h i e start now next below at before after =
    let more : flat_map f (take i h) ++ f e ≡ flat_map f (take (i + 1) h) = rw (add-one i) (sym (line_more f h i e below at)) in
    after ∙ (ap (λ front. front ++ f e) before ∙ (append_assoc start (flat_map f (take i h)) (f e) ∙ ap (λ rest. start ++ rest) more))

-- the replies

here : (o : Option Reply) (rest : List Reply) (x : Reply) → o ≡ Some x → slice_get (cons_option o rest) 0 ≡ Some x
here o rest x is = subst (λ p. slice_get (cons_option p rest) 0 ≡ Some x) (sym is) refl

behind : (o : Option Reply) (all front : List Reply) (x : Reply) → slice_get all (length front) ≡ Some x → slice_get (cons_option o all) (length (cons_option o front)) ≡ Some x
behind None all front x h = h
behind (Some y) all front x h = h

next_reply : (h : List Entry) (i : ℕ) (e : Entry) (x : Reply) → i < length h → e ≡ get_or h i e → reply_in e ≡ Some x → slice_get (filter_map reply_in h) (length (filter_map reply_in (take i h))) ≡ Some x
next_reply [] i e x below at is = absurd (omega arith)
next_reply (a ∷ h) zero e x below at is = here (reply_in a) (filter_map reply_in h) x (ap reply_in (sym at) ∙ is)
next_reply (a ∷ h) (suc i) e x below at is =
    behind (reply_in a) (filter_map reply_in h) (filter_map reply_in (take i h)) x (next_reply h i e x (omega arith) at is)

pub reply_is : (h : List Entry) (replies : List Reply) (i told : ℕ) (e : Entry) (x : Reply) → replies ≡ replies_of (reverse h) → told ≡ length (filter_map reply_in (take i h)) → i < length h → e ≡ get_or h i e → reply_in e ≡ Some x → slice_get replies told ≡ Some x
reply_is h replies i told e x all count below at is =
    ap (λ rs. slice_get rs told) (all ∙ ap (filter_map reply_in) (reverse-reverse h))
    ∙ (ap (slice_get (filter_map reply_in h)) count ∙ next_reply h i e x below at is)

count_one : (o : Option Reply) (n : ℕ) → length (option_to_list o) ≡ n → length (cons_option o []) ≡ n
count_one None n is = is
count_one (Some x) n is = is

count_behind : (o : Option Reply) (a b : List Reply) (n : ℕ) → length a ≡ length b + n → length (cons_option o a) ≡ length (cons_option o b) + n
count_behind None a b n is = is
count_behind (Some x) a b n is = omega (arith, is)

count_more : (h : List Entry) (i : ℕ) (e : Entry) → i < length h → e ≡ get_or h i e → length (filter_map reply_in (take (suc i) h)) ≡ length (filter_map reply_in (take i h)) + length (option_to_list (reply_in e))
count_more [] i e below at = absurd (omega arith)
count_more (a ∷ h) zero e below at =
    count_one (reply_in a) (length (option_to_list (reply_in e))) (ap (λ x. length (option_to_list (reply_in x))) (sym at)) ∙ omega arith
count_more (a ∷ h) (suc i) e below at =
    count_behind (reply_in a) (filter_map reply_in (take (suc i) h)) (filter_map reply_in (take i h)) (length (option_to_list (reply_in e))) (count_more h i e (omega arith) at)

pub count_goes_on : (h : List Entry) (i : ℕ) (e : Entry) (told next : ℕ) → i < length h → e ≡ get_or h i e → told ≡ length (filter_map reply_in (take i h)) → next ≡ told + length (option_to_list (reply_in e)) → next ≡ length (filter_map reply_in (take (i + 1) h))
count_goes_on h i e told next below at before after =
    after ∙ (ap (λ n. n + length (option_to_list (reply_in e))) before ∙ rw (add-one i) (sym (count_more h i e below at)))
