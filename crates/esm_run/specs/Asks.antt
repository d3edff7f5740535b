-- Which mapping a command runs, by its words: the one that the options of `run` name, or the one that a text gives. This
-- product's own.
use Rattle.std.specs.Prelude.{◌≡◌, ℕ, List}
use Rattle.esm_cli.specs.declared.command.Which.{Which}
use Rattle.esm_cli.specs.declared.command.Which.TheVariants.{Config, Mapping}
use Rattle.esm_io.specs.Meanings.{DiskMeaning}
use Rattle.esm_journal.specs.Reads.{IsOnlyRead}
use Rattle.esm_mapping.specs.Named.{IsExpected, IsNamed, WhyNot, WhyNotExpected}
use Rattle.esm_mapping.specs.declared.expected.Expected.{Expected}
use Rattle.esm_mapping.specs.declared.named.MappingError.{MappingError}
use Rattle.esm_mapping.specs.declared.named.NamedMapping.{NamedMapping}

-- the registry's disk is taken first as it was handed in, and then as it was handed back
pub record Asks (D : Type 0) : Type 1 where
  -- this is the mapping, and it may run
  pub is_named : D → NamedMapping → Type 0
  -- why there is none
  pub why_not : (old new : D) → MappingError → Type 0
  -- what is left of the registry's disk
  pub leaves : (old new : D) → Type 0

-- what `run` leaves of the registry's disk: untouched if the words give the mapping's text; otherwise it is opened and only
-- read
abbrev pub IsRegistryLeft : {D : Type 0} → DiskMeaning D → Which → (old new : D) → Type 0
IsRegistryLeft m (Config text) old new = new ≡ old
IsRegistryLeft m (Mapping id) old new = IsOnlyRead m old new

-- the mapping that the options of `run` name
abbrev pub by_words : {D : Type 0} → DiskMeaning D → Which → Asks D
by_words m which = record {
  is_named = λ registry mapping. IsNamed m which registry mapping;
  why_not = λ old new why. WhyNot m which old new why;
  leaves = λ old new. IsRegistryLeft m which old new;
}

-- the mapping that a text gives, of the kind that the command expects; no call is made on the registry's disk
abbrev pub by_text : {D : Type 0} → Expected → List ℕ → Asks D
by_text expected text = record {
  is_named = λ registry mapping. IsExpected expected text mapping;
  why_not = λ old new why. WhyNotExpected expected text why;
  leaves = λ old new. new ≡ old;
}
