-- The numbers of request L1, each under its one name. Assumes nothing.
use Rattle.std.specs.Prelude.{ℕ}

-- A 24-byte header;
abbrev pub header_size : ℕ
header_size = 24

-- then records with a 16-byte header and one octet.
abbrev pub record_size : ℕ
record_size = 17

-- Magic a1b2c3d4, version 2.4, link type 147.
abbrev pub magic : ℕ
magic = 2712847316

abbrev pub version_major : ℕ
version_major = 2

abbrev pub version_minor : ℕ
version_minor = 4

abbrev pub link_type : ℕ
link_type = 147
