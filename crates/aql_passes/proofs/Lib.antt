mod EndSteps
