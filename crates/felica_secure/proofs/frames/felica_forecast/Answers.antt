use Rattle.felica_secure.proofs.PackedParts.{forecast_packed}
use Rattle.felica_secure.proofs.frames.felica_forecast.Goals as goal

pub returns : goal.returns
returns c = forecast_packed _ _ c.forecast.result _ c.forecast.ensures c.pack.ensures
