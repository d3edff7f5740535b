-- What the program's first three words name: the folder, the functions, the door. This product's own.
use Rattle.std.specs.Prelude.{◌≡◌, ◌≢◌, ◌<◌, ◌≤◌, ℕ, List, [], ◌∷◌, ◌++◌, codes}
use Rattle.std.specs.Fmt.{decimal}
use Rattle.esm.specs.declared.functions.Functions.{Functions}
use Rattle.esm.specs.declared.functions.Functions.TheVariants.{Succeed, Poison, Port}
use Rattle.esm.specs.declared.opening.Folder.{Folder}
use Rattle.esm.specs.declared.opening.Folder.TheVariants.{Memory, Files}

-- `ok`, `poison:TEXT`, or a port from 1 to 65535, without a leading zero
abbrev pub Names : List ℕ → Functions → Type 0
Names word Succeed = word ≡ codes "ok"
Names word (Poison text) = word ≡ codes "poison:" ++ text.now
Names word (Port port) = (word ≡ decimal port) × (0 < port) × (port ≤ 65535)

-- `-` for memory, or the path of a folder, which is not empty
abbrev pub IsFolder : List ℕ → Folder → Type 0
IsFolder word Memory = word ≡ codes "-"
IsFolder word (Files path) = (word ≡ path.now) × (word ≢ []) × (word ≢ codes "-")

-- this folder, these functions, a door's port from 0 to 65535 without a leading zero, and the words of the command
pub record Opens (words : List (List ℕ)) (folder : Folder) (functions : Functions) (door : ℕ) (command : List (List ℕ)) : Type 0 where
  pub first : List ℕ
  pub called : List ℕ
  pub words_are : words ≡ first ∷ called ∷ decimal door ∷ command
  pub folder_is : IsFolder first folder
  pub named : Names called functions
  pub door_fits : door ≤ 65535

-- the words open nothing: no folder, functions and door fit them
abbrev pub IsRefused : List (List ℕ) → Type 0
IsRefused words = (folder : Folder) (functions : Functions) (door : ℕ) (command : List (List ℕ)) → ¬ Opens words folder functions door command
