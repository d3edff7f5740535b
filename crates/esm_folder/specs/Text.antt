-- What `init` prints: one line. This product's own.
use Rattle.std.specs.Prelude.{ℕ, List, ◌++◌, codes}
use Rattle.std.specs.Fmt.{decimal}
use Rattle.esm_model.specs.Names.{file_name}
use Rattle.esm_folder.specs.declared.files.InitEnd.{InitEnd}
use Rattle.esm_folder.specs.declared.files.InitEnd.TheVariants.{Done, NotEmpty, DiskFault}

abbrev pub init_text : InitEnd → List ℕ
init_text Done = codes "done\n"
init_text (NotEmpty file size) = codes "not empty " ++ file_name file ++ codes " " ++ decimal size ++ codes "\n"
init_text DiskFault = codes "disk fault\n"
