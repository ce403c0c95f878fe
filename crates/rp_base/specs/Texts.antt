-- Texts in a field of fixed size, ended by a zero byte (`char name[32]` of `remoteproc.h` and `rpmsg/ns.h`).
use Rattle.std.specs.Prelude.{ℕ, ◌-◌, List, ◌++◌, ◌==◌, not, length, take_while, replicate}

-- the bytes up to the first zero, or all of them where there is none
abbrev pub text_before_zero : List ℕ → List ℕ
text_before_zero bytes = take_while (λ byte. not (byte == 0)) bytes

-- the text with zeros after it, 32 bytes in all
abbrev pub padded_name : List ℕ → List ℕ
padded_name text = text ++ replicate (32 - length text) 0
