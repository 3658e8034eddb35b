-- The status that the program ends with after a fault, and the line that it writes.
use Rattle.std.specs.Prelude.{ℕ, List, [], ◌∷◌, ◌++◌, Option, Some, None, codes}
use Rattle.qoi.specs.declared.error.Error.{Error}
use Rattle.qoi.specs.ErrorText.{printed}
use Rattle.qoi_tool.specs.declared.Fault.{Fault}
use Rattle.qoi_tool.specs.declared.Fault.TheVariants.{Usage, Image}

-- 2 for words that ask for no command, and 1 for every other fault
abbrev pub status_of : Fault → ℕ
status_of Usage = 2
status_of (Image e) = 1

-- the program's name, what is printed for an error, and a line feed
abbrev pub named_line : Option (List ℕ) → Option (List ℕ)
named_line None = None
named_line (Some text) = Some (codes "qoi_tool: " ++ (text ++ (10 ∷ [])))

-- the line of an error, but for an i/o error, whose words are the library's own
abbrev pub error_line : Error → Option (List ℕ)
error_line e = named_line (printed e)

-- the line of a fault: how the program is called, or the error
abbrev pub fault_line : Fault → Option (List ℕ)
fault_line Usage = Some (codes "usage: qoi_tool dec [rgb|rgba] | enc W H [linear] [places|tight] | info" ++ (10 ∷ []))
fault_line (Image e) = error_line e
