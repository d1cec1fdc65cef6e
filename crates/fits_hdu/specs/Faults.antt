-- Model: the faults of a search for an HDU: their numbers, their names, and the card at fault.
use Rattle.std.specs.Prelude.{ℕ, List, Option, Some, None, codes}
use Rattle.fits_hdu.specs.declared.fault.HduFault.{HduFault}
use Rattle.fits_hdu.specs.declared.fault.HduFault.TheVariants.{NotFits, TruncatedHeader, BadKeyword, HeaderTooLong, Groups, DataTooLong, NoSuchHdu}
use Rattle.fits_hdu.specs.declared.fault.HduFault.TheVariants.{TruncatedSkip}
use Rattle.fits_hdu.specs.declared.fault.CardPlace.{CardPlace}

abbrev pub hdu_fault_number : HduFault → ℕ
hdu_fault_number NotFits = 1
hdu_fault_number TruncatedHeader = 2
hdu_fault_number (BadKeyword hdu card) = 3
hdu_fault_number HeaderTooLong = 4
hdu_fault_number Groups = 5
hdu_fault_number DataTooLong = 6
hdu_fault_number NoSuchHdu = 7
hdu_fault_number TruncatedSkip = 8

abbrev pub hdu_fault_name : HduFault → List ℕ
hdu_fault_name NotFits = codes "NotFits"
hdu_fault_name TruncatedHeader = codes "TruncatedHeader"
hdu_fault_name (BadKeyword hdu card) = codes "BadKeyword"
hdu_fault_name HeaderTooLong = codes "HeaderTooLong"
hdu_fault_name Groups = codes "Groups"
hdu_fault_name DataTooLong = codes "DataTooLong"
hdu_fault_name NoSuchHdu = codes "NoSuchHdu"
hdu_fault_name TruncatedSkip = codes "TruncatedSkip"

-- the card at fault, if it is one's fault
abbrev pub hdu_fault_place : HduFault → Option CardPlace
hdu_fault_place (BadKeyword hdu card) = Some (record { hdu = hdu; card = card })
hdu_fault_place _ = None
