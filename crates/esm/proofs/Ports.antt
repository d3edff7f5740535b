-- Ports as texts.
use Rattle.std.proofs.Common.{◌≡◌, ℕ, ◌<◌, ◌≤◌, ◌^◌, List, length, sym, ap, ◌∙◌, arith}
use Rattle.std.specs.Fmt.{decimal}
use Rattle.std.proofs.lemmas.Fmt.{decimal_digit, decimal_injective}
use Rattle.esm.specs.Opening.{Names}
use Rattle.esm.specs.declared.functions.Functions.{Functions}
use Rattle.esm.specs.declared.functions.Functions.TheVariants.{Succeed, Poison, Port}

-- a number above the ports is no port's text
pub past_ports : (number port : ℕ) (word : List ℕ) → number < 2 ^ 32 → 65535 < number → word ≡ decimal number → port ≤ 65535 → word ≡ decimal port → ⊥
past_ports number port word small above spelled fits is =
    let same : port ≡ number = decimal_injective port number (omega arith) (omega arith) (sym is ∙ spelled) in
    omega arith

-- the text of 0 names no functions
pub zero_names_nothing : (port : ℕ) (word : List ℕ) → port < 1 → word ≡ decimal port → (functions : Functions) → Names word functions → ⊥
zero_names_nothing port word below spelled functions named =
    let is-zero : port ≡ 0 = omega arith in
    let is-text : word ≡ decimal 0 = spelled ∙ ap decimal is-zero in
    none word is-text functions named
  where
    none : (word : List ℕ) → word ≡ decimal 0 → (functions : Functions) → Names word functions → ⊥
    none word spelled Succeed named = omega (arith, ap length (sym named ∙ (spelled ∙ decimal_digit 0 (omega arith))))
    none word spelled (Poison text) named = omega (arith, ap length (sym named ∙ (spelled ∙ decimal_digit 0 (omega arith))))
    none word spelled (Port port) named =
        omega (arith, decimal_injective port 0 (omega (arith, named.2)) (omega arith) (sym named.0 ∙ spelled), named.1)
