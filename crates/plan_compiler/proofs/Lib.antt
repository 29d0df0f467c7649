mod WaveFacts
