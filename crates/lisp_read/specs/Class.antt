-- The kinds of bytes that the text format tells apart, and which of them may stand where.
use Rattle.std.specs.Prelude.{ℕ, ◌==◌, nat_lt, Bool, true, false, ◌||◌, if◌then◌else◌}
use Rattle.lisp_read.specs.declared.class.Bracket.{Bracket}
use Rattle.lisp_read.specs.declared.class.Bracket.TheVariants.{Round, Square}
use Rattle.lisp_read.specs.declared.class.ByteClass.{ByteClass}
use Rattle.lisp_read.specs.declared.class.ByteClass.TheVariants.{Zero, Blank, Newline, Semicolon, Slash, Star, Quote, Backslash, OpenBrace, CloseBrace, Open, Close, Plain, Other}
use Rattle.lisp_read.specs.Bytes.{newline, quote, star, slash, semicolon, backslash, open_brace, close_brace}

-- parentheses stand round a list, square brackets round a vector
abbrev pub open_byte : Bracket → ℕ
open_byte Round = 40
open_byte Square = 91

abbrev pub close_byte : Bracket → ℕ
close_byte Round = 41
close_byte Square = 93

-- Blank is a space, a tab, a carriage return or a form feed; Plain is any other byte that prints in
-- ASCII, from 33 to 126.
abbrev pub class_of : ℕ → ByteClass
class_of b =
    if b == 0 then Zero else
    (if b == 32 || b == 9 || b == 13 || b == 12 then Blank else
    (if b == newline then Newline else
    (if b == semicolon then Semicolon else
    (if b == slash then Slash else
    (if b == star then Star else
    (if b == quote then Quote else
    (if b == backslash then Backslash else
    (if b == open_brace then OpenBrace else
    (if b == close_brace then CloseBrace else
    (if b == open_byte Round then Open Round else
    (if b == open_byte Square then Open Square else
    (if b == close_byte Round then Close Round else
    (if b == close_byte Square then Close Square else
    (if nat_lt b 33 then Other else
    (if nat_lt b 127 then Plain else Other)))))))))))))))

-- what may stand in an atom: the bytes from 33 to 126 other than ( ) [ ] { } " ;
abbrev pub is_atom_class : ByteClass → Bool
is_atom_class Slash = true
is_atom_class Star = true
is_atom_class Backslash = true
is_atom_class Plain = true
is_atom_class _ = false

-- a space, a tab, a carriage return, a form feed or a newline
abbrev pub is_blank : ByteClass → Bool
is_blank Blank = true
is_blank Newline = true
is_blank _ = false

-- any byte but 0
abbrev pub not_zero : ByteClass → Bool
not_zero Zero = false
not_zero _ = true

-- what may stand in a comment up to the end of the line
abbrev pub in_line_comment : ByteClass → Bool
in_line_comment Zero = false
in_line_comment Newline = false
in_line_comment _ = true

-- what stands for itself in a string
abbrev pub in_quotes : ByteClass → Bool
in_quotes Zero = false
in_quotes Quote = false
in_quotes Backslash = false
in_quotes _ = true

-- what stands for itself in a block; quotes have no meaning there
abbrev pub in_braces : ByteClass → Bool
in_braces Zero = false
in_braces OpenBrace = false
in_braces CloseBrace = false
in_braces Backslash = false
in_braces _ = true
