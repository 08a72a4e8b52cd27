-- The faults, their numbers and their messages.
use Rattle.std.specs.Prelude.{ℕ, ◌+◌, ◌/◌, ◌%◌, List, [], ◌∷◌, ◌++◌, decimal, codes}
use Rattle.ick_bits.specs.declared.faults.FaultKind.{FaultKind}
use Rattle.ick_bits.specs.declared.faults.FaultKind.TheVariants.{Unrecognised, MeshTooLarge, Impolite, Fawning}
use Rattle.ick_bits.specs.declared.faults.FaultKind.TheVariants.{NextDepth, NoNextLabel, NoAbstainLabel, SameLabel}
use Rattle.ick_bits.specs.declared.faults.FaultKind.TheVariants.{LabelRange, NameRange, ZeroDimension, Hyperspace}
use Rattle.ick_bits.specs.declared.faults.FaultKind.TheVariants.{TooWide, NothingStashed, SixtyFour, NoInput}
use Rattle.ick_bits.specs.declared.faults.FaultKind.TheVariants.{NoDigit, ResumeZero, Rupture, OffTheEdge}

-- the table: a kind's number, and its text up to the subject
abbrev pub entry_of : FaultKind → ℕ × List ℕ
entry_of Unrecognised = (0, [])
entry_of MeshTooLarge = (17, codes "DO YOU EXPECT ME TO FIGURE THIS OUT?")
entry_of Impolite = (79, codes "PROGRAMMER IS INSUFFICIENTLY POLITE")
entry_of Fawning = (99, codes "PROGRAMMER IS OVERLY POLITE")
entry_of NextDepth = (123, codes "PROGRAM HAS DISAPPEARED INTO THE BLACK LAGOON")
entry_of NoNextLabel = (129, codes "PROGRAM HAS GOTTEN LOST")
entry_of NoAbstainLabel = (139, codes "I WASN'T PLANNING TO GO THERE ANYWAY")
entry_of SameLabel = (182, codes "YOU MUST LIKE THIS LABEL A LOT!")
entry_of LabelRange = (197, codes "SO! 65535 LABELS AREN'T ENOUGH FOR YOU?")
entry_of NameRange = (200, codes "NOTHING VENTURED, NOTHING GAINED")
entry_of ZeroDimension = (240, codes "ERROR HANDLER PRINTED SNIDE REMARK")
entry_of Hyperspace = (241, codes "VARIABLES MAY NOT BE STORED IN WEST HYPERSPACE")
entry_of TooWide = (275, codes "DON'T BYTE OFF MORE THAN YOU CAN CHEW")
entry_of NothingStashed = (436, codes "THROW STICK BEFORE RETRIEVING!")
entry_of SixtyFour = (533, codes "YOU WANT MAYBE WE SHOULD IMPLEMENT 64-BIT VARIABLES?")
entry_of NoInput = (562, codes "I DO NOT COMPUTE")
entry_of NoDigit = (579, codes "WHAT BASE AND/OR LANGUAGE INCLUDES ")
entry_of ResumeZero = (621, codes "ERROR TYPE 621 ENCOUNTERED")
entry_of Rupture = (632, codes "THE NEXT STACK RUPTURES.  ALL DIE.  OH, THE EMBARRASSMENT!")
entry_of OffTheEdge = (633, codes "PROGRAM FELL OFF THE EDGE ON THE WAY TO THE NEW WORLD.")

abbrev pub fault_number : FaultKind → ℕ
fault_number kind = (entry_of kind).0

abbrev pub table_text : FaultKind → List ℕ
table_text kind = (entry_of kind).1

-- what follows the table's text: two of the kinds show the subject
abbrev pub shown_of : FaultKind → List ℕ → List ℕ
shown_of Unrecognised subject = subject
shown_of NoDigit subject = subject ++ codes "?"
shown_of _ subject = []

unfoldable pub text_of : FaultKind → List ℕ → List ℕ
text_of kind subject = table_text kind ++ shown_of kind subject

abbrev pub three_digits : ℕ → List ℕ
three_digits n = (48 + n / 100) ∷ (48 + n / 10 % 10) ∷ (48 + n % 10) ∷ []

-- the three lines of a fault of a statement
unfoldable pub message_of : FaultKind → ℕ → List ℕ → List ℕ
message_of kind statement subject =
    codes "ICL" ++ three_digits (fault_number kind) ++ codes "I " ++ text_of kind subject
    ++ codes "\n        ON THE WAY TO " ++ decimal (statement + 1)
    ++ codes "\n        CORRECT SOURCE AND RESUBNIT\n"
