-- The descriptors of the standard streams are 0, 1 and 2, as POSIX has them.
use Rattle.std.specs.Prelude.{ℤ, Option, IfSome, ◌≤ℤ◌, pos}
use Rattle.std.specs.Fd.{file_raw_fd}
use Rattle.std.specs.declared.fs.File.{File}

-- a descriptor is none of them, if its number is known
abbrev pub IsOther : Option ℤ → Type 0
IsOther descriptor = IfSome descriptor (λ number. pos 3 ≤ℤ number)

-- the descriptor of an open file is none of them
abbrev pub IsAboveStreams : File → Type 0
IsAboveStreams file = pos 3 ≤ℤ file_raw_fd file
