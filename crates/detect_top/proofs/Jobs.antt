-- What an order asks, by its job.
use Rattle.std.proofs.Common.{◌≡◌, refl}
use Rattle.comp_tree.specs.Raster.{Raster}
use Rattle.orders.specs.declared.words.Order.{Order}
use Rattle.orders.specs.declared.words.Job.{Job}
use Rattle.orders.specs.declared.words.Job.TheVariants.{Tree, Filter, Detect, Trial, Measure}
use Rattle.pixel_plane.specs.declared.limits.Limits.{Limits}
use Rattle.tree_products.specs.Writables.{SuitsJob}
use Rattle.detect_top.specs.ImageAnswers.{asked_of_input}
use Rattle.detect_top.specs.WordAnswers.{asked_for}
use Rattle.detect_top.specs.Made.{IsOfInput}

-- a job on one image of the input reads it, and takes any
pub of_input : (limits : Limits) (order : Order) (job : Job) → IsOfInput job → asked_for limits order job ≡ asked_of_input limits order
of_input limits order Tree is = refl
of_input limits order (Filter rule criterion) is = refl
of_input limits order (Detect choice) is = refl
of_input limits order (Trial seed shape) is = absurd is
of_input limits order (Measure choice values) is = absurd is

pub suits_any : (job : Job) (plane : Raster) → IsOfInput job → SuitsJob job plane
suits_any Tree plane is = tt
suits_any (Filter rule criterion) plane is = tt
suits_any (Detect choice) plane is = tt
suits_any (Trial seed shape) plane is = absurd is
suits_any (Measure choice values) plane is = absurd is
