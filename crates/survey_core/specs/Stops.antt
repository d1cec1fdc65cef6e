-- Bookkeeping: what stops a command where the HDU of a table isn't found, or the keeper of the tables refuses.
use Rattle.fits_hdu.specs.declared.fault.HduStop.{HduStop}
use Rattle.fits_hdu.specs.declared.fault.HduStop.TheVariants as at_hdu
use Rattle.survey_core.specs.declared.keeper.Refused.{Refused as Refusal}
use Rattle.survey_core.specs.declared.keeper.Refused.TheVariants as by_keeper
use Rattle.survey_core.specs.declared.fault.Fault.TheVariants.{Hdu}
use Rattle.survey_core.specs.declared.fault.Stop.{Stop}
use Rattle.survey_core.specs.declared.fault.Stop.TheVariants.{Refused, ReadFault, NoMemory, KeeperFault}

abbrev pub survey_stop_at_hdu : HduStop → Stop
survey_stop_at_hdu at_hdu.ReadFault = ReadFault
survey_stop_at_hdu (at_hdu.Fault fault) = Refused (Hdu fault)

abbrev pub stop_at_keeper : Refusal → Stop
stop_at_keeper by_keeper.Fault = KeeperFault
stop_at_keeper by_keeper.OutOfMemory = NoMemory
