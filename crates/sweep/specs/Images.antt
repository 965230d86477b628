-- The images that a sweep keeps, if it is asked to: the 64 bytes of PortInfo of each port, and of SwitchInfo of each
-- switch, in the first reply. InfiniBand Architecture Specification, Volume 1: subnet management, PortInfo and
-- SwitchInfo.
use Rattle.std.specs.Prelude.{◌≡◌, ℕ, ◌≤◌, Bool, true, false, List, [], Option, Some, None, option_map}
use Rattle.reply_facts.specs.Report.{about_of, payload_of}
use Rattle.sweep.specs.declared.images.SeenImage.{SeenImage}
use Rattle.sweep.specs.declared.question.Question.{Question}
use Rattle.sweep.specs.declared.question.Question.TheVariants as ask
use Rattle.sweep.specs.declared.request.Request.{Request}
use Rattle.sweep.specs.Order.{AreInOrder, found_at, placed}

-- whether images are kept; the images of PortInfo, one for a port, and the images of SwitchInfo, one for port 0 of a
-- switch. Each list is in ascending order of GUID and port
pub record Images : Type 0 where
  pub keeps : Bool
  pub ports : List SeenImage
  pub switches : List SeenImage

-- the GUID and the port of an image, by which images are ordered
abbrev pub image_key : SeenImage → ℕ × ℕ
image_key i = (i.guid, i.port)

-- no images yet; `keeps` says whether images are kept
abbrev pub no_images : Bool → Images
no_images keeps = record { keeps = keeps; ports = []; switches = [] }

-- the bytes of the image with a GUID and a port; None if there is no such image
abbrev pub image_at : List SeenImage → ℕ → ℕ → Option (List ℕ)
image_at images guid port = option_map (λ i. i.bytes) (found_at image_key guid port images)

-- what a reply adds ---------------------------------------------------------------------------

-- `images` with `image` inserted in ascending order of GUID and port; unchanged if `images` has one with this GUID
-- and port already, or if images are not kept
abbrev pub with_image : Bool → SeenImage → List SeenImage → List SeenImage
with_image true image images = placed image_key image images
with_image false image images = images

-- the images with the data of a reply about node `guid` added: PortInfo under its port, SwitchInfo under port 0;
-- unchanged for other attributes
abbrev pub images_of : Images → ℕ → List ℕ → Question → Images
images_of images guid bytes ask.Node = images
images_of images guid bytes ask.Switch =
    record images {
      switches = with_image images.keeps (record { guid = guid; port = 0; bytes = bytes }) images.switches;
    }
images_of images guid bytes (ask.Port port) =
    record images {
      ports = with_image images.keeps (record { guid = guid; port = port; bytes = bytes }) images.ports;
    }
images_of images guid bytes (ask.Manager at port) = images

-- the images with the data of a reply added, if the request was about a node; else unchanged
abbrev pub images_about : Images → Option ℕ → List ℕ → Question → Images
images_about images None bytes question = images
images_about images (Some guid) bytes question = images_of images guid bytes question

-- the images after the reply `packet` to the request `r`
abbrev pub images_with : Images → Request → List ℕ → Images
images_with images r packet = images_about images (about_of r.context) (payload_of packet) r.question

-- with memory ------------------------------------------------------------------------------------

-- the images that are kept, and the number of further images of each kind for which there is memory
pub record ImageTable : Type 0 where
  pub kept : Images
  pub port_room : ℕ
  pub switch_room : ℕ

-- if images are kept, there is memory for at least one more of each kind
abbrev pub HasImageRoom : ImageTable → Type 0
HasImageRoom table = table.kept.keeps ≡ true → (1 ≤ table.port_room) × (1 ≤ table.switch_room)

-- the images are in ascending order of GUID and port, at most one for each GUID and port
pub record AreImages (images : Images) : Type 0 where
  pub ports : AreInOrder image_key images.ports
  pub switches : AreInOrder image_key images.switches
