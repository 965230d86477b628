-- Images that are kept stay in order.
use Rattle.std.proofs.Common.{Bool, true, false, List}
use Rattle.sweep.specs.declared.images.SeenImage.{SeenImage}
use Rattle.sweep.specs.Images.{image_key, with_image}
use Rattle.sweep.specs.Order.{AreInOrder}
use Rattle.sweep.proofs.Indices.{placed_ordered}

pub image_ordered : (keeps : Bool) (image : SeenImage) (images : List SeenImage) → AreInOrder image_key images
    → AreInOrder image_key (with_image keeps image images)
image_ordered true image images ordered = placed_ordered image_key image images ordered
image_ordered false image images ordered = ordered
